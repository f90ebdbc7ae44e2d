-- What the tests of a point show.
use Rattle.std.proofs.Common.{◌≡◌, ℕ, ◌+◌, ◌*◌, ◌%◌, refl, ◌∙◌, ap, arith}
use Rattle.std.proofs.Math.Nat.{mod-mod}
use Rattle.number_facts.proofs.CongruenceLaws.{sums, multiples, products}

-- the left side of the curve's equation, reduced step by step
module _ (m d x y xx yy sum product right left : ℕ) where
  pub left_side : xx ≡ x * x % m → yy ≡ y * y % m → sum ≡ (xx + 1) % m → product ≡ xx * yy % m
      → right ≡ product * d % m → left ≡ (sum + right) % m → left ≡ (x * x + 1 + d * x * x * y * y) % m
  left_side is_xx is_yy is_sum is_product is_right is_left =
      let xx_mod : xx % m ≡ x * x % m = ap (λ n. n % m) is_xx ∙ mod-mod (x * x) m in
      let yy_mod : yy % m ≡ y * y % m = ap (λ n. n % m) is_yy ∙ mod-mod (y * y) m in
      let product_mod : product % m ≡ x * x * (y * y) % m =
      ap (λ n. n % m) is_product ∙ mod-mod (xx * yy) m ∙ products m xx (x * x) yy (y * y) xx_mod yy_mod in
      is_left ∙ sums m sum (x * x + 1) right (d * x * x * y * y)
      (ap (λ n. n % m) is_sum ∙ mod-mod (xx + 1) m ∙ sums m xx (x * x) 1 1 xx_mod refl)
      (ap (λ n. n % m) is_right ∙ mod-mod (product * d) m ∙ multiples m product (x * x * (y * y)) d product_mod
      ∙ ap (λ n. n % m) (turn x y d))
    where
      turn : (x y d : ℕ) → x * x * (y * y) * d ≡ d * x * x * y * y
      turn x y d = omega arith
