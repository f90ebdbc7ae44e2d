-- The state that two elements begin, and what is cut off behind its permutation.
use Rattle.std.proofs.Common.{◌≡◌, ℕ, zero, suc, ◌-◌, ◌≤◌, ◌<◌, List, [], ◌∷◌, length, get_or, set, take, map, replicate, ap, ◌∙◌, arith}
use Rattle.ark_sponge.proofs.Zeros.{all_zero}

module _ {F : Type 0} (f : F → ℕ) where
  pub two-before-zeros : (z left right : F) (n : ℕ) → 2 ≤ n → f z ≡ 0
      → map f (set (set (replicate n z) 0 left) 1 right) ≡ f left ∷ f right ∷ replicate (n - 2) 0
  two-before-zeros z left right zero two none = absurd (omega (arith, two))
  two-before-zeros z left right (suc zero) two none = absurd (omega (arith, two))
  two-before-zeros z left right (suc (suc n)) two none =
      let rest : n ≡ suc (suc n) - 2 = omega arith in
      ap (λ (t : List ℕ). f left ∷ f right ∷ t) (all_zero f n z none ∙ ap (λ m. replicate m 0) rest)

  pub first-taken : (xs : List F) (ys : List ℕ) (x : F) → 0 < length xs → x ≡ get_or xs 0 x → map f xs ≡ ys
      → f x ∷ [] ≡ take 1 ys
  first-taken [] ys x some is_x is = absurd (omega (arith, some))
  first-taken (y ∷ xs) ys x some is_x is = ap (λ z. f z ∷ []) is_x ∙ ap (take 1) is
