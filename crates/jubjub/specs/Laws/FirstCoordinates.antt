-- First coordinates over a second one: their square is (y^2 - 1) / (1 + d y^2), and their parity tells them apart.
use Rattle.std.proofs.Common.{◌≡◌, ℕ, ◌+◌, ◌-◌, ◌*◌, ◌%◌, ◌<◌, ◌≤◌, ◌⊎◌, inl, inr, ⊎_elim, refl, sym, ◌∙◌, ap}
use Rattle.std.proofs.Common.{arith, mod-eq_of_lt, lit<, ◌/◌, Bool, true, false, true≢false}
use mathlib.Core.Bool.{beq}
use Rattle.std.specs.Bool.{Decides}
use Rattle.std.specs.Int.{from_bool}
use Rattle.std.proofs.Math.Nat.{zero-mod, add-mul-mod_self_right, mul-mod_left}
use Rattle.std.proofs.lemmas.Nat.{mul-mod_first}
use Rattle.std.proofs.lemmas.Bool.{cases_eq, cases_lt}
use Rattle.number_facts.proofs.CongruenceLaws.{sums, products, without, multiples}
use Rattle.number_facts.proofs.Units.{no_root}
use Rattle.ark_wide_fields.specs.Laws.Bls12_381Fr.{prime_factors, generates}
use Rattle.jubjub.specs.Jubjub.{p, d}
use Rattle.jubjub.specs.Laws.Modulus.{d_is_no_square}
use Rattle.edwards.specs.Laws.Quotients.{HasInverses, product_some, cancelled}

again : (a m : ℕ) → a % m % m ≡ a % m
again a m = ap (λ t. t % m) (once (a % m)) ∙ mul-mod_first a 1 m ∙ ap (λ t. t % m) (sym (once a))
  where
    once : (n : ℕ) → n ≡ n * 1
    once n = omega arith

-- one less on both sides
pub cancel_one : (m a b : ℕ) → 0 < m → (a + 1) % m ≡ (b + 1) % m → a % m ≡ b % m
cancel_one m a b pos e = sym (drop a) ∙ sums m (a + 1) (b + 1) (m - 1) (m - 1) e refl ∙ drop b
  where
    whole : (a : ℕ) → a + 1 + (m - 1) ≡ a + 1 * m
    whole a = omega (arith, pos)

    drop : (a : ℕ) → (a + 1 + (m - 1)) % m ≡ a % m
    drop a = ap (λ t. t % m) (whole a) ∙ add-mul-mod_self_right a 1 m

-- a number below twice m that m divides
multiple_below : (m t : ℕ) → 0 < m → t < m + m → t % m ≡ 0 → (t ≡ 0) ⊎ (t ≡ m)
multiple_below m t pos below none = at (cases_lt t m)
  where
    whole : m ≤ t → t ≡ t - m + 1 * m
    whole l = omega (arith, l)

    at : (t < m) ⊎ (m ≤ t) → (t ≡ 0) ⊎ (t ≡ m)
    at (inl l) = inl (sym (mod-eq_of_lt l) ∙ none)
    at (inr l) =
        let zero' : t - m ≡ 0 = sym (mod-eq_of_lt (omega (arith, l, below)))
        ∙ sym (add-mul-mod_self_right (t - m) 1 m) ∙ ap (λ n. n % m) (sym (whole l)) ∙ none in
        inr (omega (arith, l, zero'))

-- ---- the two roots

module _ (m : ℕ) (f : HasInverses m) (odd : m % 2 ≡ 1) where
  pos : 0 < m
  pos = omega (arith, f.two)

  -- the other root has the same square
  pub same_square : (a b : ℕ) → 0 < a → a < m → b ≡ (m - a) % m → b * b % m ≡ a * a % m
  same_square a b some below is =
      ap (λ t. t * t % m) (is ∙ mod-eq_of_lt (omega (arith, some, below)))
      ∙ without m ((m - a) * (m - a)) (a * a) (a * m) ((m - a) * m) pos (ring a (m - a) m (omega (arith, below)))
      (mul-mod_left a m ∙ sym (mul-mod_left (m - a) m))
    where
      ring : (a c m : ℕ) → c + a ≡ m → c * c + a * m ≡ a * a + c * m
      ring a c m e = ap (λ t. c * c + a * t) (sym e) ∙ plain a c ∙ ap (λ t. a * a + c * t) e
        where
          plain : (a c : ℕ) → c * c + a * (c + a) ≡ a * a + c * (c + a)
          plain a c = omega arith

  -- and the other parity
  pub other_parity : (a b : ℕ) → 0 < a → a < m → b ≡ (m - a) % m → (b + a) % 2 ≡ 1
  other_parity a b some below is =
      ap (λ t. (t + a) % 2) (is ∙ mod-eq_of_lt (omega (arith, some, below))) ∙ ap (λ t. t % 2) (back a below) ∙ odd
    where
      back : (a : ℕ) → a < m → m - a + a ≡ m
      back a l = omega (arith, l)

  -- two numbers of one square are one, or they make m
  pub one_root : (a b : ℕ) → a < m → b < m → a * a % m ≡ b * b % m → (a ≡ b) ⊎ (a + b ≡ m)
  one_root a b below_a below_b square = at (cases_eq ((a + b) % m) 0)
    where
      ring : (a b c : ℕ) → (a + b) * (a + c) + b * b ≡ (a + b) * (c + b) + a * a
      ring a b c = omega arith

      back : m - b + b ≡ m
      back = omega (arith, below_b)

      product : (a + b) * (a + (m - b)) % m ≡ 0
      product = without m ((a + b) * (a + (m - b))) ((a + b) * m) (b * b) (a * a) pos
          (ring a b (m - b) ∙ ap (λ t. (a + b) * t + a * a) back) (sym square) ∙ mul-mod_left (a + b) m

      sum_of : (a + b ≡ 0) ⊎ (a + b ≡ m) → (a ≡ b) ⊎ (a + b ≡ m)
      sum_of (inl e) = inl (omega (arith, e))
      sum_of (inr e) = inr e

      difference : (a + (m - b) ≡ 0) ⊎ (a + (m - b) ≡ m) → (a ≡ b) ⊎ (a + b ≡ m)
      difference (inl e) = inl (omega (arith, e, below_b))
      difference (inr e) = inl (omega (arith, e, below_b))

      at : ((a + b) % m ≡ 0) ⊎ ((a + b) % m ≡ 0 → ⊥) → (a ≡ b) ⊎ (a + b ≡ m)
      at (inl e) = sum_of (multiple_below m (a + b) pos (omega (arith, below_a, below_b)) e)
      at (inr e) = second (cases_eq ((a + (m - b)) % m) 0)
        where
          second : ((a + (m - b)) % m ≡ 0) ⊎ ((a + (m - b)) % m ≡ 0 → ⊥) → (a ≡ b) ⊎ (a + b ≡ m)
          second (inl h) = difference (multiple_below m (a + (m - b)) pos (omega (arith, below_a, below_b)) h)
          second (inr h) = absurd (product_some m f (a + b) (a + (m - b)) e h product)

  -- two numbers of one square and one parity are one
  pub same_root : (a b : ℕ) → a < m → b < m → a * a % m ≡ b * b % m → a % 2 ≡ b % 2 → a ≡ b
  same_root a b below_a below_b square parity =
      ⊎_elim {C = a ≡ b} (λ e. e) (λ e. absurd (clash a b m parity (ap (λ t. t % 2) e ∙ odd)))
      (one_root a b below_a below_b square)
    where
      clash : (a b m : ℕ) → a % 2 ≡ b % 2 → (a + b) % 2 ≡ 1 → ⊥
      clash a b m e h = omega arith

-- where the test of one root's parity says that it is another, the other root has it
pub flipped : (b o : Bool) (w a n : ℕ) → Decides b (w % 2 ≡ 1) → w ≡ a → beq b o ≡ false → (n + a) % 2 ≡ 1
    → n % 2 ≡ from_bool o
flipped true true w a n t is e h = absurd (true≢false e)
flipped true false w a n t is e h = let one : a % 2 ≡ 1 = ap (λ k. k % 2) (sym is) ∙ t.0 refl in omega (arith, one, h)
flipped false true w a n t is e h =
    let other : (a % 2 ≡ 1 → ⊥) = λ one. true≢false (sym (t.1 (ap (λ k. k % 2) is ∙ one))) in
    omega (arith, other, h)
flipped false false w a n t is e h = absurd (true≢false e)

-- ---- the square over y

module _ (m d : ℕ) (f : HasInverses m) (y : ℕ) (some : (1 + d * (y * y)) % m ≡ 0 → ⊥) where
  positive : 0 < m
  positive = omega (arith, f.two)

  -- the equation, with the first coordinate's square apart
  apart : (x : ℕ) → x * x * (1 + d * (y * y)) + 1 ≡ x * x + 1 + d * x * x * y * y
  apart x = plain x y d
    where
      plain : (x y d : ℕ) → x * x * (1 + d * (y * y)) + 1 ≡ x * x + 1 + d * x * x * y * y
      plain x y d = omega arith

  -- two first coordinates over y have one square
  pub one_square : (a b : ℕ) → (a * a + 1 + d * a * a * y * y) % m ≡ y * y % m
      → (b * b + 1 + d * b * b * y * y) % m ≡ y * y % m → a * a % m ≡ b * b % m
  one_square a b on_a on_b =
      cancelled m f (a * a) (b * b) (1 + d * (y * y)) some
      (cancel_one m (a * a * (1 + d * (y * y))) (b * b * (1 + d * (y * y))) positive
      (ap (λ t. t % m) (apart a) ∙ on_a ∙ sym on_b ∙ ap (λ t. t % m) (sym (apart b))))

  -- where one square is that of a first coordinate over y, so is the other
  pub over_alike : (a b : ℕ) → a * a % m ≡ b * b % m → (a * a + 1 + d * a * a * y * y) % m ≡ y * y % m
      → (b * b + 1 + d * b * b * y * y) % m ≡ y * y % m
  over_alike a b same on =
      ap (λ t. t % m) (sym (apart b))
      ∙ sums m (b * b * (1 + d * (y * y))) (a * a * (1 + d * (y * y))) 1 1
      (multiples m (b * b) (a * a) (1 + d * (y * y)) (sym same)) refl ∙ ap (λ t. t % m) (apart a) ∙ on

  module _ (s n c k : ℕ) (is_s : s ≡ y * y % m) (is_n : n ≡ (s + (m - 1)) % m) (is_c : c ≡ d * s % m)
      (is_k : k ≡ (1 + c) % m) where
    k_is : k % m ≡ (1 + d * (y * y)) % m
    k_is =
        ap (λ t. t % m) is_k ∙ again (1 + c) m
        ∙ sums m 1 1 c (d * (y * y)) refl (ap (λ t. t % m) is_c ∙ again (d * s) m
        ∙ products m d d s (y * y) refl (ap (λ t. t % m) is_s ∙ again (y * y) m))

    pub k_some : k % m ≡ 0 → ⊥
    k_some e = some (sym k_is ∙ e)

    n_is : (n + 1) % m ≡ y * y % m
    n_is =
        sums m n (s + (m - 1)) 1 1 (ap (λ t. t % m) is_n ∙ again (s + (m - 1)) m) refl ∙ ap (λ t. t % m) (whole s)
        ∙ add-mul-mod_self_right s 1 m ∙ ap (λ t. t % m) is_s ∙ again (y * y) m
      where
        whole : (s : ℕ) → s + (m - 1) + 1 ≡ s + 1 * m
        whole s = omega (arith, positive)

    x_times : (x : ℕ) → x * x * k % m ≡ x * x * (1 + d * (y * y)) % m
    x_times x = products m (x * x) (x * x) k (1 + d * (y * y)) refl k_is

    n_below : n % m ≡ n
    n_below = ap (λ t. t % m) is_n ∙ again (s + (m - 1)) m ∙ sym is_n

    -- what is a root of the numerator by the denominator is a first coordinate over y
    pub over_from : (x : ℕ) → x * x * k % m ≡ n → (x * x + 1 + d * x * x * y * y) % m ≡ y * y % m
    over_from x e =
        ap (λ t. t % m) (sym (apart x))
        ∙ sums m (x * x * (1 + d * (y * y))) n 1 1 (sym (x_times x) ∙ e ∙ sym n_below) refl ∙ n_is

    -- and the other way round
    pub over_root : (x : ℕ) → (x * x + 1 + d * x * x * y * y) % m ≡ y * y % m → x * x * k % m ≡ n
    over_root x on =
        x_times x ∙ cancel_one m (x * x * (1 + d * (y * y))) n positive (ap (λ t. t % m) (apart x) ∙ on ∙ sym n_is)
        ∙ n_below

-- ---- Jubjub

-- a square root of -1 modulo p
abbrev root : ℕ
root = 3465144826073652318776269530687742778270252468765361963008

-- 1 + d y^2 is not 0 modulo p: -1 is a square, and d is none
pub denominator_some : (y : ℕ) → (1 + d * (y * y)) % p ≡ 0 → ⊥
denominator_some y e = ends zero_y
  where
    turn : (a : ℕ) → a + 1 ≡ 1 + a
    turn a = omega arith

    minus : (root * root + 1) % p ≡ 0
    minus = refl

    same : d * (y * y) % p ≡ root * root % p
    same = cancel_one p (d * (y * y)) (root * root) (lit< tt) (ap (λ t. t % p) (turn (d * (y * y))) ∙ e ∙ sym minus)

    zero_y : y % p ≡ 0
    zero_y = no_root p 7 (p - 1) prime_factors generates d ((p - 1) / 2) refl (lit< tt) (lit< tt) d_is_no_square y
        root same

    ends : y % p ≡ 0 → ⊥
    ends z =
        let square : d * (y * y) % p ≡ 0 = products p d d (y * y) 0 refl
        (multiples p y 0 y (z ∙ sym (zero-mod p)) ∙ ap (λ t. t % p) (none y))
        ∙ ap (λ t. t % p) (never d) ∙ zero-mod p in
        clash (sym (sums p 1 1 (d * (y * y)) 0 refl (square ∙ sym (zero-mod p))) ∙ e)
      where
        none : (y : ℕ) → 0 * y ≡ 0
        none y = omega arith

        never : (a : ℕ) → a * 0 ≡ 0
        never a = omega arith

        clash : (1 + 0) % p ≡ 0 → ⊥
        clash h = omega (arith, h)
