-- Sums and products of numbers that were reduced.
use Rattle.std.proofs.Common.{◌≡◌, ℕ, ◌+◌, ◌*◌, ◌%◌, ◌∙◌, ap}
use Rattle.std.proofs.Math.Nat.{mod-mod}
use Rattle.number_facts.proofs.CongruenceLaws.{sums, products}

-- r is the reduced sum of v and w, which are a and b modulo m
pub sum_of : (m v w a b r : ℕ) → v % m ≡ a % m → w % m ≡ b % m → r ≡ (v + w) % m → r % m ≡ (a + b) % m
sum_of m v w a b r is_v is_w is = ap (λ n. n % m) is ∙ mod-mod (v + w) m ∙ sums m v a w b is_v is_w

-- the same of a product
pub product_of : (m v w a b r : ℕ) → v % m ≡ a % m → w % m ≡ b % m → r ≡ v * w % m → r % m ≡ a * b % m
product_of m v w a b r is_v is_w is = ap (λ n. n % m) is ∙ mod-mod (v * w) m ∙ products m v a w b is_v is_w
