-- Numbers that are drawn bit by bit.
use Rattle.std.proofs.Common.{◌≡◌, ℕ, zero, suc, ◌+◌, ◌-◌, ◌*◌, ◌^◌, ◌<◌, ◌≤◌, ◌==◌, Bool, true, false, if◌then◌else◌, ◌⊎◌, inl, inr, min, nat_lt, refl, ap, ◌∙◌, arith}
use Rattle.std.proofs.lemmas.Bool.Decides.{nat_tests}
use Rattle.ark_groups.specs.Words.{four}
use Rattle.std.proofs.Math.Nat.{pow-succ', pow-le-pow_right}
use Rattle.poseidon_grain.specs.Grain.{bit, turned, feedback, shifted, stepped, bit_within, bit_drawn, number_drawn}

pub turned-below : (count number : ℕ) → turned count number < 2 ^ count
unfolding turned
turned-below zero number = omega arith
turned-below (suc count) number = omega (arith, turned-below count number, pow-succ' 2 count)

either-below : (b : Bool) (x y : ℕ × ℕ) → x.0 < 2 → y.0 < 2 → (if b then x else y).0 < 2
either-below true x y l m = l
either-below false x y l m = m

pub bit_within-below : (pairs register : ℕ) → (bit_within pairs register).0 < 2
unfolding bit_within
bit_within-below zero register = omega arith
bit_within-below (suc pairs) register =
    either-below (feedback register == 1) _ _ (omega arith) (bit_within-below pairs (shifted (shifted register)))

-- the first pair gives a bit, or is passed over
pub bit_at_once : (pairs register : ℕ) → feedback register ≡ 1
    → bit_within (suc pairs) register ≡ (feedback (shifted register), shifted (shifted register))
unfolding bit_within
bit_at_once pairs register one =
    let second = shifted register in
    ap (λ (n : ℕ). if n == 1 then (feedback second, shifted second) else bit_within pairs (shifted second)) one

pub bit_later : (pairs register : ℕ) → feedback register ≡ 0
    → bit_within (suc pairs) register ≡ bit_within pairs (shifted (shifted register))
unfolding bit_within
bit_later pairs register none =
    let second = shifted register in
    ap (λ (n : ℕ). if n == 1 then (feedback second, shifted second) else bit_within pairs (shifted second)) none

pub no_bit : (register : ℕ) → bit_within 0 register ≡ (0, register)
unfolding bit_within
no_bit register = refl

pub number_drawn-below : (count register : ℕ) → (number_drawn count register).0 < 2 ^ count
unfolding number_drawn
number_drawn-below zero register = omega arith
number_drawn-below (suc count) register =
    omega (
      arith,
      number_drawn-below count register,
      bit_within-below 80 (number_drawn count register).1,
      pow-succ' 2 count,
    )

pub no_digit : (register : ℕ) → number_drawn 0 register ≡ (0, register)
unfolding number_drawn
no_digit register = refl

-- one bit more
pub one_digit : (count first value register bit next : ℕ) → ◌≡◌ {A = ℕ × ℕ} (value, register) (number_drawn count first)
    → ◌≡◌ {A = ℕ × ℕ} (bit, next) (bit_drawn register)
    → ◌≡◌ {A = ℕ × ℕ} (2 * value + bit, next) (number_drawn (count + 1) first)
unfolding number_drawn
one_digit count first value register bit next so_far drawn =
    ap (λ (z : ℕ × ℕ). (2 * value + z.0, z.1)) drawn
    ∙ ap (λ (z : ℕ × ℕ). (2 * z.0 + (bit_drawn z.1).0, (bit_drawn z.1).1)) so_far
    ∙ ap (λ (n : ℕ). number_drawn n first) {x = suc count} {y = count + 1} (omega arith)

-- a number's bits part anywhere: the upper ones are drawn first
pub number_in_parts : (high low first x middle y last : ℕ) → ◌≡◌ {A = ℕ × ℕ} (x, middle) (number_drawn high first)
    → ◌≡◌ {A = ℕ × ℕ} (y, last) (number_drawn low middle)
    → ◌≡◌ {A = ℕ × ℕ} (x * 2 ^ low + y, last) (number_drawn (high + low) first)
unfolding number_drawn
number_in_parts high zero first x middle y last upper lower =
    let values : y ≡ 0 = ap (λ (z : ℕ × ℕ). z.0) lower in
    let lasts : last ≡ middle = ap (λ (z : ℕ × ℕ). z.1) lower in
    ap (λ (n : ℕ). (n, last)) {x = x * 1 + y} {y = x} (omega (arith, values)) ∙ ap (λ (n : ℕ). (x, n)) lasts
    ∙ upper ∙ ap (λ (n : ℕ). number_drawn n first) {x = high} {y = high + 0} (omega arith)
number_in_parts high (suc low) first x middle y last upper lower =
    let behind = number_drawn low middle in
    let ones = bit_drawn behind.1 in
    let values : y ≡ 2 * behind.0 + ones.0 = ap (λ (z : ℕ × ℕ). z.0) lower in
    let lasts : last ≡ ones.1 = ap (λ (z : ℕ × ℕ). z.1) lower in
    let deeper = number_in_parts high low first x middle behind.0 behind.1 upper refl in
    let twice : x * 2 ^ suc low ≡ 2 * (x * 2 ^ low) =
    ap (λ (n : ℕ). x * n) (pow-succ' 2 low) ∙ omega arith in
    ap (λ (n : ℕ). (n, last)) {x = x * 2 ^ suc low + y} {y = 2 * (x * 2 ^ low + behind.0) + ones.0}
    (omega (arith, values, twice))
    ∙ ap (λ (n : ℕ). (2 * (x * 2 ^ low + behind.0) + ones.0, n)) lasts
    ∙ one_digit (high + low) first (x * 2 ^ low + behind.0) behind.1 ones.0 ones.1 deeper refl
    ∙ ap (λ (n : ℕ). number_drawn n first) {x = high + low + 1} {y = high + suc low} (omega arith)

-- ---- digits that are turned round

pub no_digit_turned : (number : ℕ) → turned 0 number ≡ 0
unfolding turned
no_digit_turned number = refl

pub one_digit_turned : (place number : ℕ) → turned (place + 1) number ≡ bit place number + 2 * turned place number
unfolding turned
one_digit_turned place number =
    ap (λ (n : ℕ). turned n number) {x = place + 1} {y = suc place} (omega arith)

pub turned-small : (count number : ℕ) → count ≤ 12 → turned count number < 4096
turned-small count number few =
    let least : 2 ^ count ≤ 2 ^ 12 = pow-le-pow_right (omega arith) few in
    omega (arith, turned-below count number, least)

-- ---- steps

pub no_step : (register : ℕ) → stepped 0 register ≡ register
unfolding stepped
no_step register = refl

pub one_step : (count register : ℕ) → stepped (suc count) register ≡ stepped count (shifted register)
unfolding stepped
one_step count register = refl

-- ---- words

pub drawn-small : (count first value register : ℕ) → ◌≡◌ {A = ℕ × ℕ} (value, register) (number_drawn count first)
    → count < 64 → value < 9223372036854775808
drawn-small count first value register so_far few =
    let is : value ≡ (number_drawn count first).0 = ap (λ (z : ℕ × ℕ). z.0) so_far in
    let most : count ≤ 63 = omega (arith, few) in
    let least : 2 ^ count ≤ 2 ^ 63 = pow-le-pow_right (omega arith) most in
    omega (arith, is, number_drawn-below count first, least)

-- of so many digits a whole word stands here, or none above
whole_or_none : (left here above : ℕ) → here ≡ min left 64 → above ≡ left - 64 → (here ≡ 64) ⊎ (above ≡ 0)
whole_or_none left here above is rest = by_test (nat_lt left 64) refl
  where
    by_test : (b : Bool) → nat_lt left 64 ≡ b → (here ≡ 64) ⊎ (above ≡ 0)
    by_test true fewer = inr (grind (arith, nat_tests, rest, fewer))
    by_test false more = inl (grind (arith, nat_tests, is, more))

-- above a word that is whole, or above nothing
shifted_by : (high low x : ℕ) → x < 2 ^ high → (low ≡ 64) ⊎ (high ≡ 0) → x * 2 ^ low ≡ 18446744073709551616 * x
shifted_by high low x below (inl whole) = ap (λ (n : ℕ). x * 2 ^ n) whole ∙ omega arith
shifted_by high low x below (inr none) =
    let nothing : x ≡ 0 = omega (arith, below, ap (λ (n : ℕ). 2 ^ n) none) in
    ap (λ (n : ℕ). n * 2 ^ low) nothing ∙ omega (arith, nothing)

-- four words drawn one behind the other, of so many digits each, from one register to the next
pub record FourDrawn (count first x3 x2 x1 x0 last : ℕ) : Type 0 where
  pub a : ℕ
  pub b : ℕ
  pub c : ℕ
  pub d : ℕ
  pub r3 : ℕ
  pub r2 : ℕ
  pub r1 : ℕ
  pub is_a : a ≡ count - 192
  pub is_b : b ≡ min (count - 128) 64
  pub is_c : c ≡ min (count - 64) 64
  pub is_d : d ≡ min count 64
  pub top : ◌≡◌ {A = ℕ × ℕ} (x3, r3) (number_drawn a first)
  pub upper : ◌≡◌ {A = ℕ × ℕ} (x2, r2) (number_drawn b r3)
  pub lower : ◌≡◌ {A = ℕ × ℕ} (x1, r1) (number_drawn c r2)
  pub lowest : ◌≡◌ {A = ℕ × ℕ} (x0, last) (number_drawn d r1)

-- they are one number
pub four_words : (count first x3 x2 x1 x0 last : ℕ) → FourDrawn count first x3 x2 x1 x0 last → count ≤ 256
    → ◌≡◌ {A = ℕ × ℕ} (four x0 x1 x2 x3, last) (number_drawn count first)
four_words count first x3 x2 x1 x0 last m fits =
    let two = number_in_parts m.a m.b first x3 m.r3 x2 m.r2 m.top m.upper in
    let three = number_in_parts (m.a + m.b) m.c first (x3 * 2 ^ m.b + x2) m.r2 x1 m.r1 two m.lower in
    let all =
    number_in_parts (m.a + m.b + m.c) m.d first ((x3 * 2 ^ m.b + x2) * 2 ^ m.c + x1) m.r1 x0 last three m.lowest in
    let sum : m.a + m.b + m.c + m.d ≡ count = omega (arith, m.is_a, m.is_b, m.is_c, m.is_d, fits) in
    let below : (n x r : ℕ) → ◌≡◌ {A = ℕ × ℕ} (x, r) (number_drawn n first) → x < 2 ^ n =
    λ n x r e. rw (ap (λ (z : ℕ × ℕ). z.0) e) (number_drawn-below n first) in
    let first_shift =
    shifted_by m.a m.b x3 (below m.a x3 m.r3 m.top)
    (whole_or_none (count - 128) m.b m.a m.is_b (omega (arith, m.is_a))) in
    let second_shift =
    shifted_by (m.a + m.b) m.c (x3 * 2 ^ m.b + x2) (below (m.a + m.b) _ m.r2 two)
    (whole_or_none (count - 64) m.c (m.a + m.b) m.is_c (omega (arith, m.is_a, m.is_b))) in
    let third_shift =
    shifted_by (m.a + m.b + m.c) m.d ((x3 * 2 ^ m.b + x2) * 2 ^ m.c + x1) (below (m.a + m.b + m.c) _ m.r1 three)
    (whole_or_none count m.d (m.a + m.b + m.c) m.is_d (omega (arith, m.is_a, m.is_b, m.is_c))) in
    ap (λ (n : ℕ). (n, last)) {x = four x0 x1 x2 x3} {y = ((x3 * 2 ^ m.b + x2) * 2 ^ m.c + x1) * 2 ^ m.d + x0}
    (omega (arith, first_shift, second_shift, third_shift))
    ∙ all ∙ ap (λ (n : ℕ). number_drawn n first) sum
