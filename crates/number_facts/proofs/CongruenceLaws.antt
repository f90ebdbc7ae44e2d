-- Sums, products and differences of numbers that agree modulo m.
use Rattle.std.proofs.Common.{◌≡◌, ℕ, ◌+◌, ◌-◌, ◌*◌, ◌/◌, ◌%◌, ◌<◌, refl, sym, ◌∙◌, ap, arith, mod-lt, div-add-mod'}
use Rattle.std.proofs.Common.{mul_comm}
use Rattle.std.proofs.Math.Nat.{mod-add-mod, add-mod-mod, add-mul-mod_self_right}
use Rattle.std.proofs.lemmas.Nat.{mul-mod_first}

module _ (m : ℕ) where
  pub sums : (a b k l : ℕ) → a % m ≡ b % m → k % m ≡ l % m → (a + k) % m ≡ (b + l) % m
  sums a b k l e h =
      sym (mod-add-mod a m k) ∙ ap (λ t. (t + k) % m) e ∙ mod-add-mod b m k
      ∙ sym (add-mod-mod b k m) ∙ ap (λ t. (b + t) % m) h ∙ add-mod-mod b l m

  -- both sides times one number
  pub multiples : (a b k : ℕ) → a % m ≡ b % m → a * k % m ≡ b * k % m
  multiples a b k e = sym (mul-mod_first a k m) ∙ ap (λ t. t * k % m) e ∙ mul-mod_first b k m

  pub products : (a b k l : ℕ) → a % m ≡ b % m → k % m ≡ l % m → a * k % m ≡ b * l % m
  products a b k l e h =
      multiples a b k e ∙ ap (λ t. t % m) (mul_comm b k) ∙ multiples k l b h ∙ ap (λ t. t % m) (mul_comm l b)

  drop : (a t : ℕ) → 0 < m → (a + t + (m - t % m)) % m ≡ a % m
  drop a t pos =
      ap (λ k. k % m) (turn (t / m) (t % m) a t m (div-add-mod' t m) (mod-lt t pos))
      ∙ add-mul-mod_self_right a (t / m + 1) m
    where
      turn : (q r a t m : ℕ) → q * m + r ≡ t → r < m → a + t + (m - r) ≡ a + (q + 1) * m
      turn q r a t m e l = omega arith

  -- what agrees on both sides of a sum is left out
  pub without : (a b s t : ℕ) → 0 < m → a + s ≡ b + t → s % m ≡ t % m → a % m ≡ b % m
  without a b s t pos e h =
      let same : (a + t) % m ≡ (b + t) % m = sums a a t s refl (sym h) ∙ ap (λ k. k % m) e in
      sym (drop a t pos) ∙ sums (a + t) (b + t) (m - t % m) (m - t % m) same refl ∙ drop b t pos
