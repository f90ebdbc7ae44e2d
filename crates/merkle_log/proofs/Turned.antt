-- The path of an index of a power of two of digests, by repeated halving.
use Rattle.std.proofs.Common.{zero, suc, ◌≡◌, ℕ, ◌+◌, ◌-◌, ◌*◌, ◌/◌, ◌%◌, ◌<◌, ◌≤◌, ◌^◌, true, false, ◌==◌, nat_lt, List, [], ◌∷◌, ◌++◌, length, map, take, drop, get_or, Ok, arith, refl, ap, sym, ◌∙◌, pow_pos, inl, inr}
use Rattle.std.proofs.lemmas.Bool.{cases_lt, lt-ltb, le-ltb}
use Rattle.std.proofs.lemmas.Nat.{div-mul-add}
use Rattle.std.proofs.Math.Nat.{add-mul, mul-add}
use Rattle.std.proofs.lemmas.List.{length-map, length-take-le, length-drop, take-map, drop-map, get_or-take, get_or-drop, reverse-append}
use Rattle.std.specs.Prelude.{reverse}
use Rattle.ark_base.specs.declared.error.Error.{Error}
use Rattle.ark_base.specs.Outcome.{Outcome, ◌>>=◌}
use Rattle.ark_base.specs.Laws.Steps.{bind_ok, done_injective}
use Rattle.ark_paths.specs.Index.{bit_at, neighbour}
use Rattle.ark_paths.specs.Pair.{Digest}
use Rattle.ark_paths.specs.Root.{Root, place}
use Rattle.ark_paths.specs.Tree.{halves_beside}
use Rattle.merkle_log.specs.Edge.{all_of}
use Rattle.merkle_log.specs.Log.{NodeHash, both_levels, inclusion_path}
use Rattle.merkle_log.specs.Trees.{path, tree_hash}
use Rattle.merkle_log.specs.Walk.{joined}
use Rattle.merkle_log.proofs.Tests.{twice, odd_test, even_test, stays, power-rises}
use Rattle.merkle_log.proofs.Above.{there}
use Rattle.merkle_log.proofs.Halving.{halved}
use Rattle.merkle_log.proofs.Verdicts.{pow_above}

-- all of these and one more
record AllAndOne (xs : List (Outcome Digest)) (x : Outcome Digest) (ds : List Digest) : Type 0 where
  pub front : List Digest
  pub last : Digest
  pub front_is : all_of xs ≡ Ok front
  pub last_is : x ≡ Ok last
  pub is : ds ≡ front ++ (last ∷ [])

front-ok : (y : Outcome Digest) (first : Digest) (xs : List (Outcome Digest)) (front : List Digest) → y ≡ Ok first
    → all_of xs ≡ Ok front → all_of (y ∷ xs) ≡ Ok (first ∷ front)
front-ok y first xs front one rest =
    ap (λ o. o >>= λ digest. all_of xs >>= λ digests. Ok (digest ∷ digests)) one
    ∙ ap (λ o. o >>= λ digests. Ok (first ∷ digests)) rest

all-and-one : (xs : List (Outcome Digest)) (x : Outcome Digest) (ds : List Digest) → all_of (xs ++ (x ∷ [])) ≡ Ok ds
    → AllAndOne xs x ds
all-and-one [] x ds is =
    let one = bind_ok x (λ digest. all_of [] >>= λ digests. Ok (digest ∷ digests)) ds is in
    record {
      front = [];
      last = one.0;
      front_is = refl;
      last_is = one.1;
      is = sym (done_injective {E = Error} (one.0 ∷ []) ds one.2);
    }
all-and-one (y ∷ xs) x ds is =
    let first = bind_ok y (λ digest. all_of (xs ++ (x ∷ [])) >>= λ digests. Ok (digest ∷ digests)) ds is in
    let rest = bind_ok (all_of (xs ++ (x ∷ []))) (λ digests. Ok (first.0 ∷ digests)) ds first.2 in
    let more = all-and-one xs x rest.0 rest.1 in
    record {
      front = first.0 ∷ more.front;
      last = more.last;
      front_is = front-ok y first.0 xs more.front first.1 more.front_is;
      last_is = more.last_is;
      is = sym (done_injective {E = Error} (first.0 ∷ rest.0) ds rest.2) ∙ ap (λ l. first.0 ∷ l) more.is;
    }

-- the digest beside an index, turned around the digests beside the way
abbrev pub turned : NodeHash → ℕ → ℕ → ℕ → List Digest → List Digest
turned hash m i index xs =
    get_or xs (neighbour i) [] ∷ reverse (halves_beside (both_levels hash) m index xs)

-- ---- the digest beside an index

bit_zero : (i : ℕ) → bit_at i 0 ≡ (i % 2 == 1)
bit_zero i = let one : i / 2 ^ 0 ≡ i = omega arith in rw (one) refl

odd-before : (i : ℕ) → i % 2 ≡ 1 → neighbour i ≡ i - 1
odd-before i odd =
    rw (bit_zero i, odd_test i odd) refl

even-behind : (i : ℕ) → i % 2 ≡ 0 → neighbour i ≡ i + 1
even-behind i even =
    rw (bit_zero i, even_test i even) refl

inside-half : (i n : ℕ) → i < n + n → neighbour i < n + n
inside-half i n low = elim (cases_lt (i % 2) 1) [
  | inl even ↦ let is = even-behind i (omega arith) in omega arith
  | inr odd ↦ let is = odd-before i (omega arith) in omega arith
]

behind-half : (i n : ℕ) → n + n ≤ i → n + n + neighbour (i - (n + n)) ≡ neighbour i
behind-half i n high = elim (cases_lt (i % 2) 1) [
  | inl even ↦
      let is = even-behind i (omega arith) in
      let own = even-behind (i - (n + n)) (omega arith) in omega arith
  | inr odd ↦
      let is = odd-before i (omega arith) in
      let own = odd-before (i - (n + n)) (omega arith) in omega arith
]

-- ---- the halves beside the way

index-left : (q half i : ℕ) → q * (half + half) + i ≡ (q + q) * half + i
index-left q half i = omega (arith, mul-add q half half, add-mul q q half)

index-right : (q half i : ℕ) → half ≤ i → q * (half + half) + i ≡ (q + q + 1) * half + (i - half)
index-right q half i high = omega (arith, mul-add q half half, add-mul (q + q) 1 half, add-mul q q half)

bit-left : (q m i : ℕ) → i < 2 ^ suc m → bit_at ((q + q) * 2 ^ suc m + i) (suc m) ≡ false
bit-left q m i low =
    let up : ((q + q) * 2 ^ suc m + i) / 2 ^ suc m ≡ q + q = div-mul-add (q + q) (2 ^ suc m) i low in
    rw (up, even_test (q + q) (omega arith)) refl

bit-right : (q m i : ℕ) → i < 2 ^ suc m → bit_at ((q + q + 1) * 2 ^ suc m + i) (suc m) ≡ true
bit-right q m i low =
    let up : ((q + q + 1) * 2 ^ suc m + i) / 2 ^ suc m ≡ q + q + 1 = div-mul-add (q + q + 1) (2 ^ suc m) i low in
    rw (up, odd_test (q + q + 1) (omega arith)) refl

module _ (hash : NodeHash) where
  halves-left : (m index : ℕ) (xs : List Digest) (d : Digest) → bit_at index (suc m) ≡ false
      → place (both_levels hash) m (drop (2 ^ suc m) xs) ≡ Root d
      → halves_beside (both_levels hash) (suc m) index xs
      ≡ d ∷ halves_beside (both_levels hash) m index (take (2 ^ suc m) xs)
  halves-left m index xs d bit back = rw (bit, back) refl

  halves-right : (m index : ℕ) (xs : List Digest) (d : Digest) → bit_at index (suc m) ≡ true
      → place (both_levels hash) m (take (2 ^ suc m) xs) ≡ Root d
      → halves_beside (both_levels hash) (suc m) index xs
      ≡ d ∷ halves_beside (both_levels hash) m index (drop (2 ^ suc m) xs)
  halves-right m index xs d bit front = rw (bit, front) refl

  -- a half more
  one-more : (sibling own d : Digest) (halves all : List Digest) (ds front : List Digest)
      → ds ≡ front ++ (d ∷ []) → front ≡ own ∷ reverse halves → own ≡ sibling → all ≡ d ∷ halves
      → ds ≡ sibling ∷ reverse all
  one-more sibling own d halves all ds front is front_is same all_is =
      is ∙ ap (λ l. l ++ (d ∷ [])) front_is ∙ ap (λ s. s ∷ (reverse halves ++ (d ∷ []))) same
      ∙ ap (λ l. sibling ∷ l) (sym (reverse-append (d ∷ []) halves) ∙ ap reverse (sym all_is))

  turn : (none : Outcome Digest) (m i q : ℕ) (xs ds : List Digest) → length xs ≡ 2 ^ suc m → i < 2 ^ suc m
      → all_of (path (joined hash) none (suc m) i (there xs)) ≡ Ok ds
      → ds ≡ turned hash m i (q * 2 ^ suc m + i) xs
  turn none zero zero q (a ∷ b ∷ []) ds long low is = sym (done_injective {E = Error} (b ∷ []) ds is)
  turn none zero (suc zero) q (a ∷ b ∷ []) ds long low is = sym (done_injective {E = Error} (a ∷ []) ds is)
  turn none (suc m) i q xs ds long low is =
      let half = 2 ^ suc m in
      let two : 2 ^ suc (suc m) ≡ 2 ^ suc m + 2 ^ suc m = twice (suc m) in
      let four : 2 ^ suc m ≡ 2 ^ m + 2 ^ m = twice m in
      let some : 0 < 2 ^ suc m = pow_pos (suc m) in
      let all = length-map {B = Outcome Digest} xs Ok in
      let t : nat_lt (2 ^ suc m) (length (map {B = Outcome Digest} Ok xs)) ≡ true = lt-ltb _ _ (omega arith) in
      elim (cases_lt i (2 ^ suc m)) [
        | inl left ↦
            let one = all-and-one (path (joined hash) none (suc m) i (take half (there xs)))
            (tree_hash (joined hash) none (suc m) (drop half (there xs))) ds (rw (t, lt-ltb i half left) at is) in
            let front = turn none m i (q + q) (take half xs) one.front (length-take-le half xs (omega arith)) left
            (ap (λ l. all_of (path (joined hash) none (suc m) i l)) (sym (take-map Ok half xs)) ∙ one.front_is) in
            let back = halved hash none m (drop half xs) one.last (omega (arith, length-drop half xs))
            (ap (tree_hash (joined hash) none (suc m)) (sym (drop-map Ok half xs)) ∙ one.last_is) in
            let inside : neighbour i < half = let n = inside-half i (2 ^ m) (omega arith) in omega arith in
            let index : q * 2 ^ suc (suc m) + i ≡ (q + q) * half + i =
            ap (λ n. q * n + i) two ∙ index-left q half i in
            one-more _ _ one.last _ _ ds one.front one.is front (get_or-take half xs (neighbour i) [] inside)
            (ap (λ n. halves_beside (both_levels hash) (suc m) n xs) index
            ∙ halves-left m ((q + q) * half + i) xs one.last (bit-left q m i left) back)
        | inr right ↦
            let one = all-and-one (path (joined hash) none (suc m) (i - half) (drop half (there xs)))
            (tree_hash (joined hash) none (suc m) (take half (there xs))) ds (rw (t, le-ltb i half right) at is) in
            let low_back : i - half < half = omega arith in
            let back = turn none m (i - half) (q + q + 1) (drop half xs) one.front (omega (arith, length-drop half xs))
            low_back
            (ap (λ l. all_of (path (joined hash) none (suc m) (i - half) l)) (sym (drop-map Ok half xs))
            ∙ one.front_is) in
            let front = halved hash none m (take half xs) one.last (length-take-le half xs (omega arith))
            (ap (tree_hash (joined hash) none (suc m)) (sym (take-map Ok half xs)) ∙ one.last_is) in
            let beside : half + neighbour (i - half) ≡ neighbour i = ap (λ n. n + neighbour (i - n)) four
            ∙ behind-half i (2 ^ m) (omega arith) in
            let index : q * 2 ^ suc (suc m) + i ≡ (q + q + 1) * half + (i - half) =
            ap (λ n. q * n + i) two ∙ index-right q half i right in
            one-more _ _ one.last _ _ ds one.front one.is back
            (get_or-drop half xs (neighbour (i - half)) [] ∙ ap (λ n. get_or xs n []) beside)
            (ap (λ n. halves_beside (both_levels hash) (suc m) n xs) index
            ∙ halves-right m ((q + q + 1) * half + (i - half)) xs one.last (bit-right q m (i - half) low_back) front)
      ]
  turn none zero i q xs ds long low is = absurd (omega arith)

-- Levels above a whole tree change nothing.
path-levels : {A : Type 0} (join : A → A → A) (none : A) (k n i : ℕ) (xs : List A) → length xs ≤ 2 ^ k → k ≤ n
    → path join none n i xs ≡ path join none k i xs
path-levels join none k n i xs long le = stays (λ n. path join none n i xs) k n le (λ m more.
    rw (le-ltb (2 ^ m) (length xs) (omega (arith, power-rises k m more))) refl)

pub path-turned : (hash : NodeHash) (empty : Digest) (digests : List Digest) (m index : ℕ) (ds : List Digest)
    → length digests ≡ 2 ^ suc m → index < 2 ^ suc m → all_of (inclusion_path hash empty index digests) ≡ Ok ds
    → ds ≡ get_or digests (neighbour index) [] ∷ reverse (halves_beside (both_levels hash) m index digests)
path-turned hash empty digests m index ds long inside is =
    let none : 0 * 2 ^ suc m + index ≡ index = omega arith in
    turn hash (Ok empty) m index 0 digests ds long inside (ap all_of (sym (path-levels (joined hash) (Ok empty) (suc m)
    (length digests) index (there digests) (omega (arith, length-map {B = Outcome Digest} digests Ok))
    (omega (arith, pow_above (suc m))))) ∙ is)
    ∙ ap (λ n. turned hash m index n digests) none
