-- How many places stand above leaves.
use Rattle.std.proofs.Common.{zero, suc, ◌≡◌, ℕ, ◌+◌, ◌/◌, ◌^◌, ◌<◌, ◌==◌, Bool, true, false, cond, List, [], ◌∷◌, length, map, reverse, arith, refl, ap, sym, ◌∙◌, inl, inr}
use Rattle.std.specs.List.{Contains, list_any}
use Rattle.std.proofs.lemmas.Bool.{eqb-true, eq-eqb}
use Rattle.std.proofs.lemmas.List.{get_or-map, length-map}
use Rattle.std.proofs.lemmas.List.Folds.{Any-from_list_any, list_any_at}
use Rattle.std.proofs.lemmas.List.Sorted.{IsPermutation-reverse, list_any-IsPermutation}
use Rattle.ark_paths.specs.Above.{places_on, count_above}
use Rattle.ark_paths.specs.Rising.{with_number, rising_set}
use Rattle.ark_paths.proofs.MultiIndexes.{trichotomy, placed-below, placed-past, rising-increases, rising-elements, rising-unique}

-- ---- a test for a number among the values of a function

module _ (f : ℕ → ℕ) (n : ℕ) where
  found-contains : (xs : List ℕ) → list_any (λ i. f i == n) xs ≡ true → Contains (map f xs) n
  found-contains xs e =
      let (k, x, below, at, is) = Any-from_list_any (λ i. f i == n) xs e in
      (k, omega (arith, below, length-map xs f), get_or-map f xs k x n below ∙ ap f at ∙ eqb-true (f x) n is)

  contains-found : (xs : List ℕ) → Contains (map f xs) n → list_any (λ i. f i == n) xs ≡ true
  contains-found xs (k, below, is) =
      let inside : k < length xs = omega (arith, below, length-map xs f) in
      list_any_at (λ i. f i == n) xs k 0 inside (eq-eqb _ n (sym (get_or-map f xs k 0 n inside) ∙ is))

-- ---- a number more

-- a number that was not there makes the list longer
length-placed : (n : ℕ) (xs : List ℕ) → (Contains xs n → ⊥) → length (with_number n xs) ≡ length xs + 1
length-placed n [] missing = refl
length-placed n (x ∷ xs) missing =
    elim (trichotomy n x) [
      | inl lt ↦ rw (placed-below n x xs lt) (omega arith)
      | inr (inl same) ↦ absurd (missing (0, omega arith, sym same))
      | inr (inr gt) ↦ rw (placed-past n x xs gt) (let more = length-placed n xs
          (λ c. missing (suc c.0, omega (arith, c.1), c.2)) in omega arith)
    ]

-- one that was there leaves it as it is
placed-again : (n : ℕ) (xs : List ℕ) → Contains xs n → with_number n (rising_set xs) ≡ rising_set xs
placed-again n xs c = rising-unique (n ∷ xs) (rising_set xs) (rising-increases xs) keeps
    (λ k h. let there = (rising-elements xs k).0 h in (suc there.0, omega (arith, there.1), there.2))
  where
    keeps : (k : ℕ) → Contains (n ∷ xs) k → Contains (rising_set xs) k
    keeps k (zero, below, is) = rw is at ((rising-elements xs n).1 c)
    keeps k (suc i, below, is) = (rising-elements xs k).1 (i, omega arith, is)

-- A leaf more stands below a place more, unless one of the others stands below it.
pub places_on-more : (level index : ℕ) (seen : List ℕ)
    → length (places_on level (index ∷ seen)) ≡ length (places_on level seen) + cond
    (list_any (λ i. i / 2 ^ suc level == index / 2 ^ suc level) seen) 0 1
places_on-more level index seen = by_test (list_any (λ i. i / 2 ^ suc level == index / 2 ^ suc level) seen) refl
  where
    by_test : (t : Bool) → list_any (λ i. i / 2 ^ suc level == index / 2 ^ suc level) seen ≡ t
        → length (places_on level (index ∷ seen)) ≡ length (places_on level seen) + cond t 0 1
    by_test true is = let again = placed-again (index / 2 ^ suc level) (map (λ i. i / 2 ^ suc level) seen)
        (found-contains (λ i. i / 2 ^ suc level) (index / 2 ^ suc level) seen is) in omega (arith, ap length again)
    by_test false is =
        length-placed (index / 2 ^ suc level) (places_on level seen)
        (λ c. let some = contains-found (λ i. i / 2 ^ suc level) (index / 2 ^ suc level) seen
        ((rising-elements (map (λ i. i / 2 ^ suc level) seen) (index / 2 ^ suc level)).0 c) in absurd cc)

-- ---- no leaves, and leaves in another order

pub count_above-none : (levels : ℕ) → count_above levels [] ≡ 0
count_above-none zero = refl
count_above-none (suc level) = let below = count_above-none level in omega arith

-- numbers whose values pass the same tests have the same values
rising-alike : (f : ℕ → ℕ) (xs ys : List ℕ) → ((n : ℕ) → list_any (λ i. f i == n) xs ≡ list_any (λ i. f i == n) ys)
    → rising_set (map f xs) ≡ rising_set (map f ys)
rising-alike f xs ys alike =
    rising-unique (map f xs) (rising_set (map f ys)) (rising-increases (map f ys))
    (λ n c. (rising-elements (map f ys) n).1 (found-contains f n ys (sym (alike n) ∙ contains-found f n xs c)))
    (λ n c. found-contains f n xs (alike n ∙ contains-found f n ys ((rising-elements (map f ys) n).0 c)))

pub count_above-reverse : (levels : ℕ) (indexes : List ℕ) → count_above levels (reverse indexes)
    ≡ count_above levels indexes
count_above-reverse zero indexes = refl
count_above-reverse (suc level) indexes =
    let same = rising-alike (λ i. i / 2 ^ suc level) (reverse indexes) indexes
    (λ n. sym (list_any-IsPermutation (λ i. i / 2 ^ suc level == n) indexes (reverse indexes) (IsPermutation-reverse
    indexes))) in
    let below = count_above-reverse level indexes in
    omega (arith, ap length same)
