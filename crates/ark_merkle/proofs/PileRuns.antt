-- Runs of couples of a pile, each hashed and put behind it.
use Rattle.std.proofs.Common.{◌≡◌, ℕ, ◌+◌, ◌-◌, ◌*◌, ◌/◌, ◌^◌, ◌<◌, ◌≤◌, List, ◌++◌, length, map, take, drop, Ok, Err, refl, ap, subst, sym, ◌∙◌, arith, append_assoc}
use Rattle.std.proofs.lemmas.List.{length-append, length-map, length-take-le, length-drop, map-append, take-append-drop, take-map, drop-map}
use Rattle.std.specs.declared.vec.Vec.{Vec}
use Rattle.ark_base.specs.declared.error.Error.{Error}
use Rattle.ark_base.specs.Outcome.{Outcome, ◌>>=◌}
use Rattle.ark_paths.specs.Pair.{Digest}
use Rattle.ark_paths.specs.Rows.{digests_of, row_above, rows_from}
use Rattle.ark_paths.proofs.Ahead.{begun-begun}
use Rattle.ark_paths.proofs.CoupleLemmas.{length-paired}
use Rattle.ark_paths.proofs.ListOutcomes.{begun}
use Rattle.ark_merkle.proofs.BuildRows.{IsPiled, piled, piled-row, length-piled, is_piled-none, rows-refused}

-- so many couples in a list from one on
abbrev pub run_of : {A : Type 0} → ℕ → ℕ → List A → List A
run_of couple count digests = take (2 * count) (drop (2 * couple) digests)

module _ (hash : Digest → Digest → Outcome Digest) (row : List Digest) (couple count : ℕ) (now : List Digest)
    (so : IsPiled hash row couple now) (below : couple + count ≤ length row - 1)
    (inside : 2 * (couple + count) ≤ length now) where
  before : List Digest
  before = take (2 * couple) now

  rest : List Digest
  rest = drop (2 * count) (drop (2 * couple) now)

  left : ℕ
  left = length row - 1 - (couple + count)

  run-length : length (run_of couple count now) ≡ 2 * count
  run-length = length-take-le (2 * count) (drop (2 * couple) now) (omega (arith, inside, length-drop (2 * couple) now))

  whole : before ++ (run_of couple count now ++ rest) ≡ now
  unfolding before rest
  whole = ap (λ ds. take (2 * couple) now ++ ds) (take-append-drop (2 * count) (drop (2 * couple) now))
      ∙ take-append-drop (2 * couple) now

  behind : (next : List Digest) → before ++ (run_of couple count now ++ (rest ++ next)) ≡ now ++ next
  behind next =
      ap (λ ds. before ++ ds) (sym (append_assoc (run_of couple count now) rest next))
      ∙ sym (append_assoc before (run_of couple count now ++ rest) next) ∙ ap (λ ds. ds ++ next) whole

  -- the couples of the run, and those behind them
  here : piled hash (length row - 1 - couple) couple now
      ≡ (row_above hash (run_of couple count now) >>= λ next. begun next
      (piled hash left (couple + count) (now ++ next)))
  unfolding before left
  here =
      let steps : length row - 1 - couple ≡ count + (length row - 1 - (couple + count)) = omega (arith, below) in
      let long : length (take (2 * couple) now) ≡ 2 * couple =
      length-take-le (2 * couple) now (omega (arith, inside)) in
      (λ i. piled hash (steps i) couple (sym whole i))
      ∙ piled-row hash count (length row - 1 - (couple + count)) couple before (run_of couple count now) rest long
      run-length
      ∙ (λ i. row_above hash (run_of couple count now) >>= λ next. begun next
      (piled hash (length row - 1 - (couple + count)) (couple + count) (behind next i)))

  pub is_piled-run : (made : List Digest) → row_above hash (run_of couple count now) ≡ Ok made
      → IsPiled hash row (couple + count) (now ++ made)
  unfolding left
  is_piled-run made is = record {
    done = so.done ++ made;
    now_is = ap (λ (ds : List Digest). ds ++ made) so.now_is ∙ append_assoc row so.done made;
    long = omega (
      arith,
      length-append so.done made,
      so.long,
      length-paired hash (run_of couple count now) made is,
      run-length,
    );
    so_far = so.so_far ∙ ap (begun so.done) (here ∙ rw is refl)
        ∙ begun-begun so.done made (piled hash (length row - 1 - (couple + count)) (couple + count) (now ++ made));
  }

  pub is_piled-run_refused : (e : Error) → row_above hash (run_of couple count now) ≡ Err e
      → piled hash (length row - 1) 0 row ≡ Err e
  is_piled-run_refused e is =
      let rest_is : piled hash (length row - 1 - couple) couple now ≡ Err e = here ∙ rw is refl in
      so.so_far ∙ ap (begun so.done) rest_is

-- ---- a list of digests that is such a pile

-- The digests of a list, and behind them the hashes of its first couples.
pub record IsPile {A Z : Type 0} (hash : Digest → Digest → Outcome Digest) (numbers : A → Digest) (first : Vec A Z)
    (couple : ℕ) (now : Vec A Z) : Type 0 where
  pub below : couple ≤ length first.items - 1
  pub long : length now.items ≡ length first.items + couple
  pub so_far : IsPiled hash (digests_of numbers first) couple (digests_of numbers now)

pub pile-none : {A Z : Type 0} (hash : Digest → Digest → Outcome Digest) (numbers : A → Digest) (first : Vec A Z)
    → IsPile hash numbers first 0 first
pile-none hash numbers first = record {
  below = omega arith;
  long = omega arith;
  so_far = is_piled-none hash (digests_of numbers first);
}

-- the run of a pile that is hashed next
module _ {A Z : Type 0} (hash : Digest → Digest → Outcome Digest) (numbers : A → Digest) (first now : Vec A Z)
    (couple count : ℕ) (so : IsPile hash numbers first couple now) (some : couple < length now.items / 2)
    (inside : couple + count ≤ length now.items / 2) where
  seen : map numbers (run_of couple count now.items) ≡ run_of couple count (digests_of numbers now)
  seen = sym (ap (take (2 * count)) (drop-map numbers (2 * couple) now.items)
      ∙ take-map numbers (2 * count) (drop (2 * couple) now.items))

  few : couple + count ≤ length (digests_of numbers first) - 1
  few = omega (arith, inside, some, so.long, so.below, length-map first.items numbers)

  room : 2 * (couple + count) ≤ length (digests_of numbers now)
  room = omega (arith, inside, length-map now.items numbers)

  pub pile-refused : (k : ℕ) → length (digests_of numbers first) ≡ 2 ^ k → (e : Error)
      → row_above hash (map numbers (run_of couple count now.items)) ≡ Err e
      → rows_from hash k (digests_of numbers first) ≡ Err e
  pile-refused k size e refused =
      rows-refused hash (digests_of numbers first) k size e
      (is_piled-run_refused hash (digests_of numbers first) couple count (digests_of numbers now) so.so_far few room e
      (ap (row_above hash) (sym seen) ∙ refused))

  pub pile-more : (made after : Vec A Z)
      → row_above hash (map numbers (run_of couple count now.items)) ≡ Ok (digests_of numbers made)
      → after.items ≡ now.items ++ made.items → IsPile hash numbers first (couple + count) after
  pile-more made after hashed more =
      let piled_so = is_piled-run hash (digests_of numbers first) couple count (digests_of numbers now) so.so_far few
      room (digests_of numbers made) (ap (row_above hash) (sym seen) ∙ hashed) in
      let same : digests_of numbers after ≡ digests_of numbers now ++ digests_of numbers made =
      ap (map numbers) more ∙ map-append numbers now.items made.items in
      let so_far : IsPiled hash (digests_of numbers first) (couple + count) (digests_of numbers after) =
      subst (IsPiled hash (digests_of numbers first) (couple + count)) (sym same) piled_so in
      record {
        below = omega (arith, few, length-map first.items numbers);
        long = omega (
          arith,
          length-piled hash (digests_of numbers first) (couple + count) (digests_of numbers after)
              so_far,
          length-map after.items numbers,
          length-map first.items numbers,
        );
        so_far = so_far;
      }
