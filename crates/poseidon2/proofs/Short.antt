-- The internal layer of three elements with the diagonal 1, 1, 2.
use Rattle.std.proofs.Common.{◌≡◌, ℕ, ◌+◌, ◌*◌, ◌%◌, List, [], ◌∷◌, length, get_or, set, map, refl, sym, ◌∙◌, ap, ap₂, arith}
use Rattle.std.proofs.lemmas.Nat.{mul-mod_first}
use Rattle.ark_sponge.specs.Permutation.{matrix_product}
use Rattle.ark_sponge.proofs.Products.{same_sum}
use Rattle.poseidon2.specs.Matrices.{internal_matrix}
use Rattle.poseidon2.proofs.Fours.{whole-Is, sum-Is, double-Is, last-Is}

-- the product of the layer's matrix with three numbers, by additions alone
abbrev pub short_images : ℕ → ℕ → ℕ → ℕ → List ℕ
short_images p a b c =
    let all = ((a + b) % p + c) % p in
    (a + all) % p ∷ (b + all) % p ∷ ((2 * c) % p + all) % p ∷ []

short-sums : (p a b c : ℕ) → short_images p a b c
    ≡ matrix_product p (internal_matrix (1 ∷ 1 ∷ 2 % p ∷ [])) (a ∷ b ∷ c ∷ [])
short-sums p a b c =
    let both = (a + b) % p in
    let all = (both + c) % p in
    let twice = (2 * c) % p in
    let sum = a + b + c in
    let whole = sum-Is p all both c (a + b) c refl (whole-Is p both (a + b) refl) refl in
    let double = double-Is p twice c c refl refl in
    let row0 : a + sum ≡ (1 + 1) * a + (1 * b + (1 * c + 0)) = omega arith in
    let row1 : b + sum ≡ 1 * a + ((1 + 1) * b + (1 * c + 0)) = omega arith in
    let two : c + c ≡ 2 * c = omega arith in
    let first = last-Is p ((a + all) % p) a all a sum refl refl whole ∙ ap (λ n. n % p) row0 in
    let second = last-Is p ((b + all) % p) b all b sum refl refl whole ∙ ap (λ n. n % p) row1 in
    let plain = last-Is p ((twice + all) % p) twice all (c + c) sum refl double whole ∙ ap (λ n. (n + sum) % p) two in
    let reduced : (2 * c + sum) % p ≡ (2 % p * c + sum) % p =
    same_sum p (2 * c) (2 % p * c) sum sum (sym (mul-mod_first 2 c p)) refl in
    let third = plain ∙ reduced ∙ ap (λ n. n % p) (spread (2 % p)) in
    ap₂ (λ u v. u ∷ v ∷ (twice + all) % p ∷ []) first second
    ∙ ap (λ v. ((1 + 1) * a + (1 * b + (1 * c + 0))) % p ∷ (1 * a + ((1 + 1) * b + (1 * c + 0))) % p ∷ v ∷ []) third
  where
    spread : (m : ℕ) → m * c + (a + b + c) ≡ 1 * a + (1 * b + ((1 + m) * c + 0))
    spread m =
        let one : (1 + m) * c ≡ c + m * c = omega arith in
        omega (arith, one)

-- three elements written over
pub short-layer : {F : Type 0} (f : F → ℕ) (p : ℕ) (s : List F) (r0 r1 r2 : F) → length s ≡ 3
    → f r0 ∷ f r1 ∷ f r2 ∷ [] ≡ short_images p (get_or (map f s) 0 0) (get_or (map f s) 1 0) (get_or (map f s) 2 0)
    → map f (set (set (set s 0 r0) 1 r1) 2 r2) ≡ matrix_product p (internal_matrix (1 ∷ 1 ∷ 2 % p ∷ [])) (map f s)
short-layer f p [] r0 r1 r2 long is = absurd (omega (arith, long))
short-layer f p (a ∷ []) r0 r1 r2 long is = absurd (omega (arith, long))
short-layer f p (a ∷ b ∷ []) r0 r1 r2 long is = absurd (omega (arith, long))
short-layer f p (a ∷ b ∷ c ∷ d ∷ s) r0 r1 r2 long is = absurd (omega (arith, long))
short-layer f p (a ∷ b ∷ c ∷ []) r0 r1 r2 long is = is ∙ short-sums p (f a) (f b) (f c)
