-- Values that are reduced modulo m step by step.
use Rattle.std.proofs.Common.{◌≡◌, ℕ, ◌+◌, ◌*◌, ◌%◌, refl, ◌∙◌, ap, arith}
use Rattle.std.proofs.Math.Nat.{mod-mod}
use Rattle.number_facts.proofs.CongruenceLaws.{sums, products}

pub low : (m n k : ℕ) → n ≡ k % m → n % m ≡ k % m
low m n k is = ap (λ t. t % m) is ∙ mod-mod k m

module _ (m a d x y xx yy : ℕ) (is_xx : xx ≡ x * x % m) (is_yy : yy ≡ y * y % m) where
  -- the left side of the equation
  pub left_side : (product left : ℕ) → product ≡ a * xx % m → left ≡ (product + yy) % m
      → left ≡ (a * x * x + y * y) % m
  left_side product left is_product is_left =
      is_left
      ∙ sums m product (a * (x * x)) yy (y * y) (low m product (a * xx) is_product
      ∙ products m a a xx (x * x) refl (low m xx (x * x) is_xx)) (low m yy (y * y) is_yy)
      ∙ ap (λ n. n % m) (turn a x y)
    where
      turn : (a x y : ℕ) → a * (x * x) + y * y ≡ a * x * x + y * y
      turn a x y = omega arith

  -- the right side
  pub right_side : (first product right : ℕ) → first ≡ d * xx % m → product ≡ first * yy % m
      → right ≡ (1 + product) % m → right ≡ (1 + d * x * x * y * y) % m
  right_side first product right is_first is_product is_right =
      is_right
      ∙ sums m 1 1 product (d * (x * x) * (y * y)) refl (low m product (first * yy) is_product
      ∙ products m first (d * (x * x)) yy (y * y) (low m first (d * xx) is_first
      ∙ products m d d xx (x * x) refl (low m xx (x * x) is_xx)) (low m yy (y * y) is_yy))
      ∙ ap (λ n. n % m) (turn d x y)
    where
      turn : (d x y : ℕ) → 1 + d * (x * x) * (y * y) ≡ 1 + d * x * x * y * y
      turn d x y = omega arith
