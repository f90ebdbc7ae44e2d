-- One round more of the runs that are the permutation.
use Rattle.std.proofs.Common.{◌≡◌, ℕ, ◌+◌, ◌%◌, ◌<◌, List, [], ◌∷◌, length, get_or, set, take, map, refl, sym, ◌∙◌, ap, arith}
use Rattle.std.proofs.lemmas.List.Sums.{fold_more}
use Rattle.ark_sponge.specs.Permutation.{sums, front_images}
use Rattle.poseidon2.specs.Permutation.{full_round, partial_round, full_rounds, partial_rounds}

module _ (p : ℕ) (sbox : ℕ → ℕ) where
  pub full-more : (external rows : List (List ℕ)) (init r : List ℕ) (i : ℕ) → i < length rows → r ≡ get_or rows i r
      → full_round p sbox external (full_rounds p sbox external (take i rows) init) r
      ≡ full_rounds p sbox external (take (i + 1) rows) init
  full-more external rows init r i within is =
      ap (full_round p sbox external (full_rounds p sbox external (take i rows) init)) is
      ∙ sym (fold_more (full_round p sbox external) init rows i r within)

  pub partial-more : (internal : List (List ℕ)) (constants init : List ℕ) (i k : ℕ) → i < length constants
      → k ≡ get_or constants i 0
      → partial_round p sbox internal (partial_rounds p sbox internal (take i constants) init) k
      ≡ partial_rounds p sbox internal (take (i + 1) constants) init
  partial-more internal constants init i k within is =
      ap (partial_round p sbox internal (partial_rounds p sbox internal (take i constants) init)) is
      ∙ sym (fold_more (partial_round p sbox internal) init constants i 0 within)

  -- the first element alone goes through the S-box
  pub first-image : {F : Type 0} (f : F → ℕ) (s : List F) (k : ℕ) (a r : F) → 0 < length s → a ≡ get_or s 0 a
      → f r ≡ sbox ((f a + k) % p) → map f (set s 0 r) ≡ front_images sbox 1 (sums p (map f s) (k ∷ []))
  first-image f [] k a r some is_a is_r = absurd (omega (arith, some))
  first-image f (x ∷ xs) k a r some is_a is_r =
      let number : f r ≡ sbox ((f x + k) % p) = is_r ∙ ap (λ y. sbox ((f y + k) % p)) is_a in
      ap (λ n. n ∷ map f xs) number ∙ ap (λ t. sbox ((f x + k) % p) ∷ t) (rest (map f xs))
    where
      rest : (ys : List ℕ) → ys ≡ sums p ys []
      rest [] = refl
      rest (y ∷ ys) = refl
