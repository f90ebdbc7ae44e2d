-- Sums and doublings modulo p, as the matrices of four by four take them.
use Rattle.std.proofs.Common.{◌≡◌, ℕ, ◌+◌, ◌*◌, ◌%◌, ◌∙◌, ap, arith}
use Rattle.std.proofs.Math.Nat.{mod-mod}
use Rattle.ark_sponge.proofs.Products.{same_sum}

-- t is n modulo p
abbrev pub Is : ℕ → ℕ → ℕ → Type 0
Is p t n = t % p ≡ n % p

pub whole-Is : (p t n : ℕ) → t ≡ n % p → Is p t n
whole-Is p t n e = ap (λ m. m % p) e ∙ mod-mod n p

-- a sum of two, and of one with itself
pub sum-Is : (p t u v m n : ℕ) → t ≡ (u + v) % p → Is p u m → Is p v n → Is p t (m + n)
sum-Is p t u v m n e f g = whole-Is p t (u + v) e ∙ same_sum p u m v n f g

pub double-Is : (p t u m : ℕ) → t ≡ (2 * u) % p → Is p u m → Is p t (m + m)
double-Is p t u m e f =
    let twice : 2 * u ≡ u + u = omega arith in
    sum-Is p t u u m m (e ∙ ap (λ n. n % p) twice) f f

-- the last sum, which is below p
pub last-Is : (p t u v m n : ℕ) → t ≡ (u + v) % p → Is p u m → Is p v n → t ≡ (m + n) % p
last-Is p t u v m n e f g = e ∙ same_sum p u m v n f g
