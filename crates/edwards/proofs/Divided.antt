-- Numerators times the inverses of their denominators.
use Rattle.std.proofs.Common.{◌≡◌, ℕ, ◌-◌, ◌*◌, ◌%◌, ◌<◌, sym, ◌∙◌, ap, arith, mod-eq_of_lt, mul_comm}
use Rattle.std.proofs.lemmas.Nat.{mul-mod_first, mul-mod_second}
use Rattle.number_facts.specs.Primes.{IsPrime}
use Rattle.number_facts.proofs.Units.{certified}
use Rattle.edwards.specs.Curves.{IsComplete}

pub divided : (p x s z i : ℕ) → s < p → x % p ≡ s * z % p → z * i % p ≡ 1 → x * i % p ≡ s
divided p x s z i below of_x inverts =
    sym (mul-mod_first x i p) ∙ ap (λ n. n * i % p) of_x ∙ mul-mod_first (s * z) i p ∙ ap (λ n. n % p) (regroup s z i)
    ∙ sym (mul-mod_second s (z * i) p) ∙ ap (λ n. s * n % p) inverts ∙ ap (λ n. n % p) (alone s) ∙ mod-eq_of_lt below
  where
    regroup : (s z i : ℕ) → s * z * i ≡ s * (z * i)
    regroup s z i = omega arith

    alone : (s : ℕ) → s * 1 ≡ s
    alone s = omega arith

pub is_prime : (p d : ℕ) → IsComplete p d → IsPrime p
is_prime p d k = certified p k.generator (p - 1) k.factors k.generates

-- the inverse of a product, times one factor, is the inverse of the other
pub inverse_of_first : (p y z m i r : ℕ) → m ≡ y * z % p → m * i % p ≡ 1 → r ≡ i * z % p → y * r % p ≡ 1
inverse_of_first p y z m i r is_m inverts is_r =
    ap (λ n. y * n % p) is_r ∙ mul-mod_second y (i * z) p ∙ ap (λ n. n % p) (regroup y z i)
    ∙ sym (mul-mod_first (y * z) i p) ∙ ap (λ n. n * i % p) (sym is_m) ∙ inverts
  where
    regroup : (y z i : ℕ) → y * (i * z) ≡ y * z * i
    regroup y z i = omega arith

pub inverse_of_second : (p y z m i r : ℕ) → m ≡ y * z % p → m * i % p ≡ 1 → r ≡ i * y % p → z * r % p ≡ 1
inverse_of_second p y z m i r is_m =
    inverse_of_first p z y m i r (is_m ∙ ap (λ n. n % p) (mul_comm y z))
