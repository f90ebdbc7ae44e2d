-- Roots modulo a certified prime: what a power shows, and which of two numbers is a square.
use Rattle.std.proofs.Common.{◌≡◌, ℕ, zero, suc, ◌+◌, ◌-◌, ◌*◌, ◌/◌, ◌%◌, ◌^◌, ◌<◌, ◌≤◌, List, ◌⊎◌, inl, inr, sym, ◌∙◌}
use Rattle.std.proofs.Common.{ap, arith, mod-lt, mod-eq_of_lt, div-add-mod', mul_comm, mul-div_cancel}
use Rattle.std.proofs.Math.Nat.{zero-mod, mul-div_cancel_left}
use Rattle.std.proofs.lemmas.Nat.{pow-add}
use Rattle.std.proofs.lemmas.Bool.{cases_eq}
use Rattle.number_facts.specs.Powers.{power_mod}
use Rattle.number_facts.specs.Generators.{IsGenerator}
use Rattle.number_facts.proofs.CongruenceLaws.{products, multiples}
use Rattle.number_facts.proofs.Orders.{IsOne, zero_is_one, remainder}
use Rattle.number_facts.proofs.PowerLaws.{power_times, same_power}
use Rattle.number_facts.proofs.Units.{whole, apart, generated, no_root, no_zero_divisors, some_modulus}

module _ (m g n : ℕ) (fs : List ℕ) (c : IsGenerator m g n fs) where
  -- a number that m does not divide is a power of g
  logarithm : (y : ℕ) → (y % m ≡ 0 → ⊥) → (i : ℕ) × (g ^ i % m ≡ y % m)
  logarithm y some =
      let r = generated m g n fs c (y % m) (positive (y % m) some) (mod-lt y (some_modulus m g n fs c)) in (r.0, r.2)
    where
      positive : (a : ℕ) → (a ≡ 0 → ⊥) → 0 < a
      positive a z = omega arith

  some_n : 0 < n
  some_n = positive c.two c.size
    where
      positive : {k : ℕ} → 2 ≤ k → suc n ≡ k → 0 < n
      positive l e = omega arith

  -- n divides the exponent of a power of g that is 1
  exponent_of_one : (i : ℕ) → IsOne m g i → i % n ≡ 0
  exponent_of_one i one = at (cases_eq (i % n) 0)
    where
      at : (i % n ≡ 0) ⊎ (i % n ≡ 0 → ⊥) → i % n ≡ 0
      at (inl e) = e
      at (inr some) = absurd (apart m g n fs c 0 (i % n) (omega (arith, some)) (mod-lt i some_n)
          (zero_is_one m g ∙ sym (remainder m g i n one (whole m g n fs c))))

  -- where the power (m - 1) / k of a number is 1, it has a root of degree k
  pub root_of_degree : (k e : ℕ) → e * k ≡ n → (y : ℕ) → (y % m ≡ 0 → ⊥) → y ^ e % m ≡ 1
      → (h : ℕ) × (h ^ k % m ≡ y % m)
  root_of_degree k e product y some one = (
    g ^ (i / k),
    ap (λ t. t % m) (power_times g (i / k) k ∙ ap (λ t. g ^ t) (mul_comm k (i / k) ∙ divides)) ∙ log.1,
  )
    where
      log : (i : ℕ) × (g ^ i % m ≡ y % m)
      log = logarithm y some

      i : ℕ
      i = log.0

      zero' : e * i % n ≡ 0
      zero' = exponent_of_one (e * i) (ap (λ t. t % m) (sym (power_times g i e)) ∙ same_power m (g ^ i) y e log.1
          ∙ one ∙ sym (mod-eq_of_lt c.two))

      divides : i / k * k ≡ i
      divides = whole_of e k i (e * i / n) product (cancel_mod (e * i) n zero') some_n
        where
          cancel_mod : (a n : ℕ) → a % n ≡ 0 → a / n * n ≡ a
          cancel_mod a n z = sym (with_none (a / n * n)) ∙ ap (λ t. a / n * n + t) (sym z) ∙ div-add-mod' a n
            where
              with_none : (a : ℕ) → a + 0 ≡ a
              with_none a = omega arith

          whole_of : (e k i q : ℕ) → e * k ≡ n → q * n ≡ e * i → 0 < n → i / k * k ≡ i
          whole_of zero k i q is_n is_i pos = absurd (omega (arith, is_n, pos))
          whole_of (suc e) zero i q is_n is_i pos = absurd (omega (arith, is_n, pos))
          whole_of (suc e) (suc k) i q is_n is_i pos =
              let split : i ≡ q * suc k = sym (mul-div_cancel_left i {n = suc e} (omega arith))
              ∙ ap (λ t. t / suc e) (sym is_i ∙ ap (λ t. q * t) (sym is_n) ∙ turn q (suc e) (suc k))
              ∙ mul-div_cancel_left (q * suc k) {n = suc e} (omega arith) in
              ap (λ t. t / suc k * suc k) split ∙ ap (λ t. t * suc k) (mul-div_cancel q {n = suc k} (omega arith))
              ∙ sym split
            where
              turn : (q e k : ℕ) → q * (e * k) ≡ e * (q * k)
              turn q e k = omega arith

  -- where d is no square and d times two numbers is one, one of the two is a square
  pub one_has_root : (d h : ℕ) → h + h ≡ n → 0 < h → 2 < m → power_mod m 255 d h ≡ m - 1 → (a b v : ℕ)
      → (a % m ≡ 0 → ⊥) → (b % m ≡ 0 → ⊥) → d * (a * b) % m ≡ v * v % m
      → ((y : ℕ) × (y * y % m ≡ a % m)) ⊎ ((y : ℕ) × (y * y % m ≡ b % m))
  one_has_root d h twice pos big euler a b v some_a some_b e = at (parity (log_a.0)) (parity (log_b.0))
    where
      log_a : (i : ℕ) × (g ^ i % m ≡ a % m)
      log_a = logarithm a some_a

      log_b : (i : ℕ) × (g ^ i % m ≡ b % m)
      log_b = logarithm b some_b

      parity : (i : ℕ) → (i / 2 + i / 2 ≡ i) ⊎ (suc (i / 2 + i / 2) ≡ i)
      parity i = half (cases_eq (i % 2) 0)
        where
          half : (i % 2 ≡ 0) ⊎ (i % 2 ≡ 0 → ⊥) → (i / 2 + i / 2 ≡ i) ⊎ (suc (i / 2 + i / 2) ≡ i)
          half (inl e) = inl (omega (arith, e))
          half (inr some) = inr (omega (arith, some))

      root : (i y : ℕ) → g ^ i % m ≡ y % m → i / 2 + i / 2 ≡ i → g ^ (i / 2) * g ^ (i / 2) % m ≡ y % m
      root i y is even = ap (λ t. t % m) (sym (pow-add g (i / 2) (i / 2)) ∙ ap (λ t. g ^ t) even) ∙ is

      at : (log_a.0 / 2 + log_a.0 / 2 ≡ log_a.0) ⊎ (suc (log_a.0 / 2 + log_a.0 / 2) ≡ log_a.0)
          → (log_b.0 / 2 + log_b.0 / 2 ≡ log_b.0) ⊎ (suc (log_b.0 / 2 + log_b.0 / 2) ≡ log_b.0)
          → ((y : ℕ) × (y * y % m ≡ a % m)) ⊎ ((y : ℕ) × (y * y % m ≡ b % m))
      at (inl even) other = inl (g ^ (log_a.0 / 2), root log_a.0 a log_a.1 even)
      at (inr odd) (inl even) = inr (g ^ (log_b.0 / 2), root log_b.0 b log_b.1 even)
      at (inr odd) (inr odd') =
          let u : ℕ = log_a.0 / 2 in
          let w : ℕ = log_b.0 / 2 in
          let r : ℕ = g ^ (u + w + 1) in
          let whole_power : r * r % m ≡ a * b % m =
          ap (λ t. t % m) (sym (pow-add g (u + w + 1) (u + w + 1)) ∙ ap (λ t. g ^ t)
          (regroup u w log_a.0 log_b.0 odd odd')
          ∙ pow-add g log_a.0 log_b.0) ∙ products m (g ^ log_a.0) a (g ^ log_b.0) b log_a.1 log_b.1 in
          let none : r % m ≡ 0 =
          no_root m g n fs c d h twice pos big euler r v (ap (λ t. t % m) (mul_comm d (r * r))
          ∙ multiples m (r * r) (a * b) d whole_power ∙ ap (λ t. t % m) (mul_comm (a * b) d) ∙ e) in
          absurd (some_b (no_zero_divisors m g n fs c a b some_a (sym whole_power
          ∙ multiples m r 0 r (none ∙ sym (zero-mod m)) ∙ ap (λ t. t % m) (zero_times r) ∙ zero-mod m)))
        where
          zero_times : (r : ℕ) → 0 * r ≡ 0
          zero_times r = omega arith

          regroup : (u w i j : ℕ) → suc (u + u) ≡ i → suc (w + w) ≡ j → u + w + 1 + (u + w + 1) ≡ i + j
          regroup u w i j e h = omega (arith, e, h)
