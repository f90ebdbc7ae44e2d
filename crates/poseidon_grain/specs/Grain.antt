-- The Grain LFSR in self-shrinking mode, which gives the bits that Poseidon's constants are made of (the Poseidon
-- paper, appendix F). Its register of 80 bits is a number: the oldest bit, b0, is the lowest binary digit.
use Rattle.std.specs.Prelude.{ℕ, zero, suc, ◌+◌, ◌-◌, ◌*◌, ◌/◌, ◌%◌, ◌^◌, ◌==◌, nat_lt, if◌then◌else◌, List, [], ◌∷◌}

-- the bit of a number at a place, 0 being the lowest
abbrev pub bit : ℕ → ℕ → ℕ
bit place number = number / 2 ^ place % 2

-- the lowest digits of a number, as many as are asked for, turned round: the highest of them comes first
unfoldable pub turned : ℕ → ℕ → ℕ
turned zero number = 0
turned (suc place) number = bit place number + 2 * turned place number

-- The register at the start: b0 and b1 are 0 and 1, for a prime field; b2 to b5 are 0, for an S-box that is a power;
-- then the modulus's count of digits in 12 bits, the width in 12, the counts of full and of partial rounds in 10 each,
-- the highest bit first; the last 30 bits are ones.
abbrev pub start : ℕ → ℕ → ℕ → ℕ → ℕ
start digits width full partial =
    2 + 2 ^ 6 * turned 12 digits + 2 ^ 18 * turned 12 width + 2 ^ 30 * turned 10 full + 2 ^ 40 * turned 10 partial
    + 2 ^ 50 * (2 ^ 30 - 1)

-- the bit that comes in: b62, b51, b38, b23, b13 and b0 added modulo 2
abbrev pub feedback : ℕ → ℕ
feedback register =
    (bit 62 register + bit 51 register + bit 38 register + bit 23 register + bit 13 register + bit 0 register) % 2

-- the oldest bit goes out, and the feedback comes in
abbrev pub shifted : ℕ → ℕ
shifted register = register / 2 + 2 ^ 79 * feedback register

-- the register behind so many steps
unfoldable pub stepped : ℕ → ℕ → ℕ
stepped zero register = register
stepped (suc count) register = stepped count (shifted register)

-- the register once 160 bits have been dropped
abbrev pub seeded : ℕ → ℕ → ℕ → ℕ → ℕ
seeded digits width full partial = stepped 160 (start digits width full partial)

-- ---- what is drawn, and the register behind it

-- Of each pair of bits that come in, the second is given where the first is 1. 0 where so many pairs give none.
unfoldable pub bit_within : ℕ → ℕ → ℕ × ℕ
bit_within zero register = (0, register)
bit_within (suc pairs) register =
    let second = shifted register in
    if feedback register == 1 then (feedback second, shifted second) else bit_within pairs (shifted second)

-- The next bit. The sequence is one of the greatest period, so that not all firsts of 80 pairs are 0.
abbrev pub bit_drawn : ℕ → ℕ × ℕ
bit_drawn register = bit_within 80 register

-- the number of so many bits, the highest first
unfoldable pub number_drawn : ℕ → ℕ → ℕ × ℕ
number_drawn zero register = (0, register)
number_drawn (suc count) register =
    let high = number_drawn count register in
    let low = bit_drawn high.1 in
    (2 * high.0 + low.0, low.1)

-- the first of so many numbers of so many bits that is below a modulus; 0 where none is
unfoldable pub below_within : ℕ → ℕ → ℕ → ℕ → ℕ × ℕ
below_within zero p digits register = (0, register)
below_within (suc tries) p digits register =
    let drawn = number_drawn digits register in
    if nat_lt drawn.0 p then drawn else below_within tries p digits drawn.1

-- a number below a modulus, of as many bits as it has, by rejection
abbrev pub below_drawn : ℕ → ℕ → ℕ → ℕ × ℕ
below_drawn p digits register = below_within 128 p digits register

-- a number of so many bits, modulo a modulus
abbrev pub remainder_drawn : ℕ → ℕ → ℕ → ℕ × ℕ
remainder_drawn p digits register =
    let drawn = number_drawn digits register in
    (drawn.0 % p, drawn.1)

-- so many values, one behind the other
unfoldable pub list_drawn : {A : Type 0} → (ℕ → A × ℕ) → ℕ → ℕ → List A × ℕ
list_drawn draw zero register = ([], register)
list_drawn draw (suc count) register =
    let first = draw register in
    let others = list_drawn draw count first.1 in
    (first.0 ∷ others.0, others.1)
