-- Eighth powers modulo p: which power tells them, and fourth powers of numbers of one square.
use Rattle.std.proofs.Common.{◌≡◌, ℕ, zero, suc, ◌+◌, ◌-◌, ◌*◌, ◌%◌, ◌^◌, ◌<◌, ◌⊎◌, inl, inr, refl, sym, ◌∙◌, ap}
use Rattle.std.proofs.Common.{arith, mod-eq_of_lt, mul_comm, pow-suc}
use Rattle.std.proofs.Math.Nat.{zero-mod, pow-zero}
use Rattle.std.proofs.lemmas.Nat.{mul-pow}
use Rattle.std.proofs.lemmas.Bool.{cases_eq}
use Rattle.number_facts.proofs.CongruenceLaws.{multiples}
use Rattle.number_facts.proofs.PowerLaws.{same_power, square_power}
use Rattle.number_facts.proofs.Residues.{root_of_degree}
use Rattle.number_facts.proofs.Units.{fermat_of}
use Rattle.edwards.specs.Edwards.{inverse}
use Rattle.edwards.specs.Curves.{IsComplete}
use Rattle.edwards.specs.Eighths.{HasEighths}
use Rattle.edwards.specs.Laws.Completeness.{has_inverses}
use Rattle.edwards.specs.Laws.Halves.{some_first, some_second, some_alike, some_i}
use Rattle.edwards.specs.Laws.Quotients.{HasInverses, some_modulus, cancelled, product_some, inverse_times}
use Rattle.edwards.specs.Laws.Tangent.{one_some}
use Rattle.edwards.specs.Laws.Telling.{minus, to_square}
use Rattle.edwards.specs.Laws.TurnedFacts.{signs, sign_is_fourth, sign_is_none}

abbrev pub to_fourth : ℕ → ℕ
to_fourth n = n * n * (n * n)

abbrev pub to_eighth : ℕ → ℕ
to_eighth n = to_fourth n * to_fourth n

module _ (p d : ℕ) (k : IsComplete p d) (h : HasEighths p d k.root) where
  abbrev f : HasInverses p
  f = has_inverses p d k

  pos : 0 < p
  pos = some_modulus p f

  pub fourth_some : (n : ℕ) → (n % p ≡ 0 → ⊥) → to_fourth n % p ≡ 0 → ⊥
  fourth_some n some = product_some p f (n * n) (n * n) (product_some p f n n some some)
      (product_some p f n n some some)

  pub eighth_some : (n : ℕ) → (n % p ≡ 0 → ⊥) → to_eighth n % p ≡ 0 → ⊥
  eighth_some n some = product_some p f (to_fourth n) (to_fourth n) (fourth_some n some) (fourth_some n some)

  -- numbers of one square are the same but for a fourth power
  pub sign_of : (a b : ℕ) → a * a % p ≡ b * b % p → (t : ℕ) × (t % p ≡ 0 → ⊥) × (a % p ≡ to_fourth t * b % p)
  sign_of a b e = at (cases_eq ((a + b) % p) 0)
    where
      some_root : h.root % p ≡ 0 → ⊥
      some_root = some_first p h.root h.root (some_alike p (h.root * h.root) k.root h.is_root (some_i p d k))

      at : ((a + b) % p ≡ 0) ⊎ ((a + b) % p ≡ 0 → ⊥) → (t : ℕ) × (t % p ≡ 0 → ⊥) × (a % p ≡ to_fourth t * b % p)
      at (inl z) = (
        h.root,
        some_root,
        sign_is_fourth p a b h.root k.root pos (z ∙ sym (zero-mod p)) h.is_root (minus p d k h),
      )
      at (inr some) = (
        1,
        one_some p d k h,
        sign_is_none p a b k.root pos (cancelled p f (a + k.root * k.root * b) 0 (a + b) some
            (signs p a b k.root pos e (minus p d k h) ∙ ap (λ n. n % p) (none (a + b)))) (minus p d k h),
      )
        where
          none : (n : ℕ) → 0 ≡ 0 * n
          none n = omega arith

  -- the power (p - 1) / 8 of an eighth power
  pub eighth_power : (n : ℕ) → (n % p ≡ 0 → ⊥) → to_eighth n ^ h.eighth % p ≡ 1
  eighth_power n some =
      ap (λ t. t % p) (square_power (n * n * (n * n)) h.eighth (h.eighth + h.eighth) refl
      ∙ square_power (n * n) (h.eighth + h.eighth) (h.eighth + h.eighth + (h.eighth + h.eighth)) refl
      ∙ square_power n (h.eighth + h.eighth + (h.eighth + h.eighth)) (p - 1) (eight h.eighth (p - 1) h.eighths))
      ∙ fermat_of p k.generator (p - 1) k.factors k.generates n some
    where
      eight : (e n : ℕ) → e * 8 ≡ n → e + e + (e + e) + (e + e + (e + e)) ≡ n
      eight e n is = omega (arith, is)

  as_power : (n : ℕ) → to_eighth n ≡ n ^ 8
  as_power n = to_square (to_fourth n) ∙ square_power (n * n) 2 4 refl ∙ square_power n 4 8 refl

  some_eighth : 0 < h.eighth
  some_eighth = positive h.eighth p h.eighths k.big
    where
      positive : (e p : ℕ) → e * 8 ≡ p - 1 → 4 < p → 0 < e
      positive e p is l = omega (arith, is, l)

  one_power : (n : ℕ) → 1 ^ n ≡ 1
  one_power zero = pow-zero 1
  one_power (suc n) = pow-suc 1 n ∙ ap (λ t. t * 1) (one_power n)

  power_some : (a n : ℕ) → (a % p ≡ 0 → ⊥) → a ^ n % p ≡ 0 → ⊥
  power_some a zero some z = one_some p d k h (ap (λ t. t % p) (sym (pow-zero a)) ∙ z)
  power_some a (suc n) some z =
      product_some p f (a ^ n) a (power_some a n some) some (ap (λ t. t % p) (sym (pow-suc a n)) ∙ z)

  zero_of : (a n : ℕ) → 0 < n → a % p ≡ 0 → a ^ n % p ≡ 0
  zero_of a zero l z = absurd (omega arith)
  zero_of a (suc n) l z =
      ap (λ t. t % p) (pow-suc a n ∙ mul_comm (a ^ n) a) ∙ multiples p a 0 (a ^ n) (z ∙ sym (zero-mod p))
      ∙ ap (λ t. t % p) (none (a ^ n)) ∙ zero-mod p
    where
      none : (n : ℕ) → 0 * n ≡ 0
      none n = omega arith

  -- numbers whose powers (p - 1) / 8 are the same are so but for an eighth power
  pub told_alike : (v c : ℕ) → (c % p ≡ 0 → ⊥) → v ^ h.eighth % p ≡ c ^ h.eighth % p
      → (n : ℕ) × (n % p ≡ 0 → ⊥) × (v % p ≡ c * to_eighth n % p)
  told_alike v c some e = (r.0, some_n, is)
    where
      z : ℕ
      z = inverse p c

      whole : c * z % p ≡ 1 % p
      whole = ap (λ t. t % p) (plain (c * z)) ∙ ap (λ t. t % p) (regroup c z) ∙ inverse_times p f 1 c some
        where
          plain : (n : ℕ) → n ≡ 1 * n
          plain n = omega arith

          regroup : (c z : ℕ) → 1 * (c * z) ≡ 1 * c * z
          regroup c z = omega arith

      some_v : v % p ≡ 0 → ⊥
      some_v none = power_some c h.eighth some (sym e ∙ zero_of v h.eighth some_eighth none)

      some_z : z % p ≡ 0 → ⊥
      some_z = some_second p c z (some_alike p (c * z) 1 whole (one_some p d k h))

      power : (v * z) ^ h.eighth % p ≡ 1
      power = ap (λ t. t % p) (mul-pow v z h.eighth) ∙ multiples p (v ^ h.eighth) (c ^ h.eighth) (z ^ h.eighth) e
          ∙ ap (λ t. t % p) (sym (mul-pow c z h.eighth)) ∙ same_power p (c * z) 1 h.eighth whole
          ∙ ap (λ t. t % p) (one_power h.eighth) ∙ mod-eq_of_lt f.two

      r : (n : ℕ) × (n ^ 8 % p ≡ v * z % p)
      r = root_of_degree p k.generator (p - 1) k.factors k.generates 8 h.eighth h.eighths (v * z)
          (product_some p f v z some_v some_z) power

      is : v % p ≡ c * to_eighth r.0 % p
      is = ap (λ t. t % p) (plain v) ∙ sym (multiples p (c * z) 1 v whole) ∙ ap (λ t. t % p) (regroup c z v)
          ∙ sym (multiples p (to_eighth r.0) (v * z) c (ap (λ t. t % p) (as_power r.0) ∙ r.1))
          ∙ ap (λ t. t % p) (mul_comm (to_eighth r.0) c)
        where
          plain : (n : ℕ) → n ≡ 1 * n
          plain n = omega arith

          regroup : (c z v : ℕ) → c * z * v ≡ v * z * c
          regroup c z v = omega arith

      some_n : r.0 % p ≡ 0 → ⊥
      some_n = some_first p r.0 (r.0 * (r.0 * r.0) * to_fourth r.0)
          (some_alike p (r.0 * (r.0 * (r.0 * r.0) * to_fourth r.0)) (to_eighth r.0) (ap (λ t. t % p) (regroup r.0))
          (some_second p c (to_eighth r.0) (some_alike p (c * to_eighth r.0) v (sym is) some_v)))
        where
          regroup : (n : ℕ) → n * (n * (n * n) * (n * n * (n * n))) ≡ n * n * (n * n) * (n * n * (n * n))
          regroup n = omega arith
