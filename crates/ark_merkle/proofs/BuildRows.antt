-- Rows that are hashed one behind the other into one list.
use Rattle.std.proofs.Common.{zero, suc, ◌≡◌, ℕ, ◌+◌, ◌-◌, ◌*◌, ◌<◌, ◌≤◌, ◌^◌, List, [], ◌∷◌, ◌++◌, length, map, take, drop, get_or, Ok, Err, refl, ap, sym, ◌∙◌, arith, pow_pos, append_assoc, append-nil, zero-add, add-zero}
use Rattle.std.proofs.lemmas.List.{length-append, length-map, get_or-append-add, take_at, drop_at}
use Rattle.std.proofs.Math.Nat.{pow-succ'}
use Rattle.ark_base.specs.declared.error.Error.{Error}
use Rattle.ark_base.specs.Outcome.{Outcome, ◌>>=◌}
use Rattle.ark_paths.specs.Pair.{Digest, HashPair}
use Rattle.ark_paths.specs.Index.{log2}
use Rattle.ark_paths.specs.Root.{upper_levels}
use Rattle.ark_paths.specs.Rows.{row_above, rows_from, rows_of}
use Rattle.ark_paths.proofs.CoupleLemmas.{length-paired}
use Rattle.ark_paths.proofs.ListOutcomes.{begun, begun-nil, begun-more}
use Rattle.ark_paths.proofs.Logs.{log2-between, log2-pow, upper_levels-is}
use Rattle.ark_merkle.specs.LevelOrder.{rows_in_turn}

module _ (hash : Digest → Digest → Outcome Digest) where
  -- so many hashes of neighbours in a list, from a couple on, each put behind the list
  abbrev pub piled : ℕ → ℕ → List Digest → Outcome (List Digest)
  piled zero couple digests = Ok []
  piled (suc left) couple digests = hash (get_or digests (2 * couple) []) (get_or digests (2 * couple + 1) []) >>= λ d.
      piled left (suc couple) (digests ++ d ∷ []) >>= λ more. Ok (d ∷ more)

  pair-here : (before row : List Digest) (a b : Digest) (couple : ℕ) → length before ≡ 2 * couple
      → get_or (before ++ (a ∷ b ∷ row)) (2 * couple) [] ≡ a
  pair-here before row a b couple long = let e : 2 * couple ≡ length before + 0 =
      omega arith in rw e (get_or-append-add before (a ∷ b ∷ row) 0 [])

  pair-next : (before row : List Digest) (a b : Digest) (couple : ℕ) → length before ≡ 2 * couple
      → get_or (before ++ (a ∷ b ∷ row)) (2 * couple + 1) [] ≡ b
  pair-next before row a b couple long = let e : 2 * couple + 1 ≡ length before + 1 =
      omega arith in rw e (get_or-append-add before (a ∷ b ∷ row) 1 [])

  moved : (before row done : List Digest) (a b d : Digest) → (before ++ (a ∷ b ∷ (row ++ done))) ++ d ∷ []
      ≡ (before ++ a ∷ b ∷ []) ++ (row ++ (done ++ d ∷ []))
  moved before row done a b d = simp append_assoc

  begun-cons : (d : Digest) (next : List Digest) (rest : Outcome (List Digest)) → (begun next rest >>= λ more.
      Ok (d ∷ more)) ≡ begun (d ∷ next) rest
  begun-cons d next (Ok more) = refl
  begun-cons d next (Err e) = refl

  -- one couple, and those behind it
  one_more : (o : Outcome Digest) (p : Outcome (List Digest)) (left : Digest → Outcome (List Digest))
      (rest : List Digest → Outcome (List Digest)) → ((d : Digest) → left d
      ≡ (p >>= λ next. begun next (rest (d ∷ next))))
      → (o >>= λ d. left d >>= λ more. Ok (d ∷ more)) ≡ ((o >>= λ d. p >>= λ next. Ok (d ∷ next)) >>= λ next. begun next
      (rest next))
  one_more (Err e) p left rest is = refl
  one_more (Ok d) (Err e) left rest is = rw (is d) refl
  one_more (Ok d) (Ok next) left rest is = rw (is d) (begun-cons d next (rest (d ∷ next)))

  -- the couples of a row, and those behind it
  pub piled-row : (count left couple : ℕ) (before row done : List Digest) → length before ≡ 2 * couple → length row
      ≡ 2 * count
      → piled (count + left) couple (before ++ (row ++ done)) ≡ (row_above hash row >>= λ next. begun next
      (piled left (couple + count) (before ++ (row ++ (done ++ next)))))
  piled-row zero left couple before [] done long size =
      rw (zero-add, add-zero, append-nil) (begun-nil (piled left couple (before ++ done)))
  piled-row zero left couple before (a ∷ row) done long size = absurd (omega arith)
  piled-row (suc count) left couple before [] done long size = absurd (omega arith)
  piled-row (suc count) left couple before (a ∷ []) done long size = absurd (omega arith)
  piled-row (suc count) left couple before (a ∷ b ∷ row) done long size =
      let more : suc count + left ≡ suc (count + left) = omega arith in
      let next_couple : suc couple + count ≡ couple + suc count = omega arith in
      let further : length (before ++ a ∷ b ∷ []) ≡ 2 * suc couple = omega (arith, length-append before (a ∷ b ∷ [])) in
      let lists : (d : Digest) (next : List Digest) → (before ++ a ∷ b ∷ []) ++ (row ++ ((done ++ d ∷ []) ++ next))
      ≡ before ++ (a ∷ b ∷ (row ++ (done ++ d ∷ next))) = λ d next. simp append_assoc in
      let behind : (d : Digest) → piled (count + left) (suc couple) ((before ++ (a ∷ b ∷ (row ++ done))) ++ d ∷ [])
      ≡ (row_above hash row >>= λ next. begun next (piled left (couple + suc count)
      (before ++ (a ∷ b ∷ (row ++ (done ++ d ∷ next)))))) =
      λ d. ap (piled (count + left) (suc couple)) (moved before row done a b d) ∙ piled-row count left (suc couple)
      (before ++ a ∷ b ∷ []) row (done ++ d ∷ []) further (omega arith) ∙ (λ i. row_above hash row >>= λ next.
      begun next (piled left (next_couple i) (lists d next i))) in
      rw (more, pair-here before (row ++ done) a b couple long, pair-next before (row ++ done) a b couple long)
      (one_more (hash a b) (row_above hash row) (λ d. piled (count + left) (suc couple)
      ((before ++ (a ∷ b ∷ (row ++ done))) ++ d ∷ [])) (λ next. piled left (couple + suc count)
      (before ++ (a ∷ b ∷ (row ++ (done ++ next))))) behind)

  -- ---- the rows above a row

  row_then : (o : Outcome (List Digest)) (from pile : List Digest → Outcome (List (List Digest)))
      → ((next : List Digest) → o ≡ Ok next → from next ≡ pile next) → (o >>= from) ≡ (o >>= pile)
  row_then (Ok next) from pile is = is next refl
  row_then (Err e) from pile is = refl

  bound-assoc : {A B C : Type 0} (o : Outcome A) (f : A → Outcome B) (g : B → Outcome C) → ((o >>= f) >>= g)
      ≡ (o >>= λ x. f x >>= g)
  bound-assoc (Ok x) f g = refl
  bound-assoc (Err e) f g = refl

  in_turn : (k : ℕ) (row next : List Digest) (o : Outcome (List Digest)) → length next ≡ 2 ^ k
      → ((o >>= λ more. Ok (next ∷ rows_in_turn k more)) >>= λ rows. Ok (row ∷ rows))
      ≡ (begun next o >>= λ more. Ok (row ∷ rows_in_turn (suc k) more))
  in_turn k row next (Err e) long = refl
  in_turn k row next (Ok more) long = rw (take_at next more (2 ^ k) long, drop_at next more (2 ^ k) long) refl

  piled-rows : (k couple : ℕ) (before row : List Digest) → length before ≡ 2 * couple → length row ≡ 2 ^ k
      → rows_from hash k row ≡ (piled (2 ^ k - 1) couple (before ++ row) >>= λ more. Ok (row ∷ rows_in_turn k more))
  piled-rows zero couple before row long size = refl
  piled-rows (suc k) couple before row long size =
      let w = 2 ^ k in
      let some : 0 < w = pow_pos k in
      let twice : 2 ^ suc k ≡ 2 * w = pow-succ' 2 k in
      let steps : 2 ^ suc k - 1 ≡ w + (w - 1) = omega arith in
      let further : length (before ++ row) ≡ 2 * (couple + w) = omega (arith, length-append before row) in
      let all : piled (w + (w - 1)) couple (before ++ row) ≡ (row_above hash row >>= λ next. begun next
      (piled (w - 1) (couple + w) (before ++ (row ++ next)))) = ap (λ (ds : List Digest). piled (w + (w - 1)) couple
      (before ++ ds)) (sym (append-nil row)) ∙ piled-row w (w - 1) couple before row [] long (omega arith) in
      let each : (next : List Digest) → row_above hash row ≡ Ok next → (rows_from hash k next >>= λ rows.
      Ok (row ∷ rows)) ≡ (begun next (piled (w - 1) (couple + w) (before ++ (row ++ next))) >>= λ more. Ok
      (row ∷ rows_in_turn (suc k) more)) =
      λ next is.
      let half : length next ≡ w = omega (arith, length-paired hash row next is) in
      ap (λ o. o >>= λ rows. Ok (row ∷ rows)) (piled-rows k (couple + w) (before ++ row) next further half
      ∙ ap (λ (ds : List Digest). piled (w - 1) (couple + w) ds >>= λ more. Ok (next ∷ rows_in_turn k more))
      (append_assoc before row next))
      ∙ in_turn k row next (piled (w - 1) (couple + w) (before ++ (row ++ next))) half in
      row_then (row_above hash row) (λ next. rows_from hash k next >>= λ rows. Ok (row ∷ rows))
      (λ next. begun next (piled (w - 1) (couple + w) (before ++ (row ++ next))) >>= λ more.
      Ok (row ∷ rows_in_turn (suc k) more)) each
      ∙ sym (bound-assoc (row_above hash row) (λ next. begun next (piled (w - 1) (couple + w)
      (before ++ (row ++ next)))) (λ more. Ok (row ∷ rows_in_turn (suc k) more)))
      ∙ rw (steps, all) refl

  -- ---- as a loop makes them

  module _ (row : List Digest) where
    -- the list so far: a row, and the hashes of the couples before one
    pub record IsPiled (couple : ℕ) (now : List Digest) : Type 0 where
      pub done : List Digest
      pub now_is : now ≡ row ++ done
      pub long : length done ≡ couple
      pub so_far : piled (length row - 1) 0 row ≡ begun done (piled (length row - 1 - couple) couple now)

    pub is_piled-none : IsPiled 0 row
    is_piled-none = record {
      done = [];
      now_is = sym (append-nil row);
      long = refl;
      so_far = let e : length row - 1 - 0
          ≡ length row - 1 = omega arith in rw e (begun-nil (piled (length row - 1) 0 row));
    }

    pub length-piled : (couple : ℕ) (now : List Digest) → IsPiled couple now → length now ≡ length row + couple
    length-piled couple now so = ap length so.now_is ∙ length-append row so.done
        ∙ ap (λ (n : ℕ). length row + n) so.long

    module _ (couple : ℕ) (now : List Digest) (so : IsPiled couple now) (below : couple < length row - 1) where
      next-here : piled (length row - 1 - couple) couple now ≡ (hash (get_or now (2 * couple) [])
          (get_or now (2 * couple + 1) []) >>= λ d. piled (length row - 1 - (couple + 1)) (couple + 1)
          (now ++ d ∷ []) >>=
          λ more. Ok (d ∷ more))
      next-here =
          let left : length row - 1 - couple ≡ suc (length row - 1 - (couple + 1)) = omega arith in
          let one : suc couple ≡ couple + 1 = omega arith in
          rw (left, one) refl

      pub is_piled-refused : (e : Error) → hash (get_or now (2 * couple) []) (get_or now (2 * couple + 1) []) ≡ Err e
          → piled (length row - 1) 0 row ≡ Err e
      is_piled-refused e refused = so.so_far ∙ rw (next-here, refused) refl

      pub is_piled-more : (d : Digest) → hash (get_or now (2 * couple) []) (get_or now (2 * couple + 1) []) ≡ Ok d
          → IsPiled (couple + 1) (now ++ d ∷ [])
      is_piled-more d hashed = record {
        done = so.done ++ d ∷ [];
        now_is = ap (λ (ds : List Digest). ds ++ d ∷ []) so.now_is ∙ append_assoc row so.done (d ∷ []);
        long = length-append so.done (d ∷ []) ∙ ap (λ (n : ℕ). n + 1) so.long;
        so_far = so.so_far ∙ rw (next-here, hashed) (begun-more so.done d (piled (length row - 1 - (couple + 1))
            (couple + 1) (now ++ d ∷ [])));
      }

    module _ (k : ℕ) (size : length row ≡ 2 ^ k) where
      pub rows-refused : (e : Error) → piled (length row - 1) 0 row ≡ Err e → rows_from hash k row ≡ Err e
      rows-refused e refused = piled-rows k 0 [] row refl size ∙ rw (← size, refused) refl

      pub rows-all : (couple : ℕ) (now : List Digest) → couple ≡ length row - 1 → IsPiled couple now → rows_from hash k
          row ≡ Ok (rows_in_turn (suc k) now)
      rows-all couple now last so =
          let none : length row - 1 - couple ≡ 0 = omega arith in
          let made : piled (length row - 1) 0 row ≡ Ok so.done = so.so_far ∙ rw none (ap Ok (append-nil so.done)) in
          let own : take (2 ^ k) now ≡ row = rw so.now_is (take_at row so.done (2 ^ k) size) in
          let above : drop (2 ^ k) now ≡ so.done = rw so.now_is (drop_at row so.done (2 ^ k) size) in
          piled-rows k 0 [] row refl size ∙ rw (own, above, ← size, made) refl

-- the rows above leaf digests, from the lowest one
module _ {A : Type 0} (h : HashPair) (numbers : A → Digest) (leaves : List A) (row : List Digest) (m : ℕ)
    (size : length leaves ≡ 2 ^ suc m) (hashed : row_above h.bottom (map numbers leaves) ≡ Ok row) where
  long : length (map numbers leaves) ≡ 2 ^ suc m
  long = length-map leaves numbers ∙ size

  pub lowest-half : length row ≡ 2 ^ m
  lowest-half = let twice : 2 ^ suc m ≡ 2 * 2 ^ m =
      pow-succ' 2 m in omega (arith, long, length-paired h.bottom (map numbers leaves) row hashed)

  pub above-lowest : (o : Outcome (List (List Digest))) → rows_from h.upper m row ≡ o
      → rows_of h (upper_levels (map numbers leaves)) (map numbers leaves) ≡ o
  above-lowest o is = rw (upper_levels-is m (map numbers leaves) long, hashed) is

-- the logarithm of a size, as it is computed
pub log-size : (k m n : ℕ) → n ≡ 2 ^ suc m → 2 ^ k ≤ n → n < 2 * 2 ^ k → k ≡ suc m
log-size k m n size low high = sym (log2-between k n low high) ∙ ap log2 size ∙ log2-pow (suc m)
