-- Numbers by signed digits, each at its place to base 2.
use Rattle.std.specs.Prelude.{◌≡◌, ℕ, ◌+◌, ◌-◌, ◌*◌, ◌%◌, ◌<◌, List, [], ◌∷◌, drop, slice_index, nat_lt}
use Rattle.std.specs.Prelude.{if◌then◌else◌}

-- what a digit adds: 1, 3 .. 15 add themselves, and 17, 19 .. 31 nothing
unfoldable pub added : ℕ → ℕ
added c = if nat_lt c 16 then c else 0

-- what it takes away: 17, 19 .. 31 take away what they lack to 32, and 1, 3 .. 15 nothing
unfoldable pub taken : ℕ → ℕ
taken c = if nat_lt c 16 then 0 else 32 - c

-- what digits make, each by what it counts, the lowest first
unfoldable pub weighed : (ℕ → ℕ) → List ℕ → ℕ
weighed count [] = 0
weighed count (c ∷ digits) = count c + 2 * weighed count digits

-- 0, or odd and below 32
pub record IsDigit (c : ℕ) : Type 0 where
  pub below : c < 32
  pub odd : 0 < c → c % 2 ≡ 1

-- each is 0, or odd and below 32
abbrev pub AreDigits : List ℕ → Type 0
AreDigits digits = (k : ℕ) → IsDigit (slice_index digits k)

-- the digits of a number: what they add is the number, and what they take away
pub record AreDigitsOf (n : ℕ) (digits : List ℕ) : Type 0 where
  pub each : AreDigits digits
  pub whole : n + weighed taken digits ≡ weighed added digits

-- from a place on, digits make nothing
pub record IsBlankFrom (i : ℕ) (digits : List ℕ) : Type 0 where
  pub adds : weighed added (drop i digits) ≡ 0
  pub takes : weighed taken (drop i digits) ≡ 0
