-- The value by which a point tells whether it is 8 times a point, on a curve with a point of order 8.
use Rattle.std.specs.Prelude.{◌≡◌, ℕ, ◌+◌, ◌-◌, ◌*◌, ◌%◌, ◌^◌}
use Rattle.ark_groups.specs.Group.{times}
use Rattle.number_facts.specs.Powers.{power_mod}
use Rattle.edwards.specs.Edwards.{Coordinates, IsOnCurve, edwards}
use Rattle.edwards.specs.Curves.{IsComplete}

-- Where i is a square root of -1, (1 / (i r), 1 / r) is a point of order 8, with a tangent of this slope. The spread is
-- a square root of 1 + d, the root one of i, and the class the power (p - 1) / 8 of 4 (1 + d).
pub record HasEighths (p d i : ℕ) : Type 0 where
  pub r : ℕ
  pub of_order_eight : r * r * r * r % p ≡ (d + 2 * r * r) % p
  pub some_r : (1 + r) % p ≡ 0 → ⊥
  pub slope : ℕ
  pub is_slope : (slope + r * r + 2 * r) % p ≡ 0
  pub spread : ℕ
  pub is_spread : spread * spread % p ≡ (1 + d) % p
  pub some_spread : spread % p ≡ 0 → ⊥
  pub root : ℕ
  pub is_root : root * root % p ≡ i % p
  pub eighth : ℕ
  pub eighths : eighth * 8 ≡ p - 1
  pub class : ℕ
  pub is_class : power_mod p 255 (2 * spread * (2 * spread)) eighth ≡ class

-- the first coordinate as X = i x, so that the curve is X^2 + y^2 = 1 - d X^2 y^2
abbrev pub quarter_turn : ℕ → Coordinates → ℕ
quarter_turn i a = i * a.x

-- the tangent at the point of order 8, which is 0 there twice and at (X, y) = (-1, 0): 1 + X + y + slope X y
abbrev pub tangent : ℕ → ℕ → Coordinates → ℕ
tangent i slope a = 1 + a.y + quarter_turn i a * (1 + slope * a.y)

-- X (1 + X)
abbrev pub first_factor : ℕ → Coordinates → ℕ
first_factor i a = quarter_turn i a * (1 + quarter_turn i a)

-- 1 - y^2
abbrev pub second_factor : ℕ → Coordinates → ℕ
second_factor p a = 1 + (p - a.y * a.y % p)

-- The function N^4 / ((1 - y)^3 (1 + y) X^2 (1 + X)^2), where N is the tangent, has an eightfold zero at the point of
-- order 8 and no other. This is its value, times the eighth power of (1 - y) (1 + y) X (1 + X).
abbrev pub telling : ℕ → ℕ → ℕ → Coordinates → ℕ
telling p i slope a =
    (tangent i slope a * second_factor p a * first_factor i a) ^ 4 * (first_factor i a * (1 + a.y)) ^ 2
    * second_factor p a

-- the power (p - 1) / 8 of the value is the class: but for the factor 4 (1 + d), the value is an eighth power
abbrev pub IsTold : (p d i : ℕ) → HasEighths p d i → Coordinates → Type 0
IsTold p d i h a = telling p i h.slope a ^ h.eighth % p ≡ h.class

-- 8 times a point of the curve
abbrev pub IsEightTimes : ℕ → ℕ → Coordinates → Type 0
IsEightTimes p d a = (b : Coordinates) × IsOnCurve p d b × (times (edwards p d) 8 b ≡ a)

-- Of points with no coordinate 0: what is told is 8 times a point, and what is 8 times a point is told, unless the
-- second coordinate of its double is 0, whose numerator is y^2 + x^2.
abbrev pub EighthPowersTell : Type 0
EighthPowersTell = (p d : ℕ) (k : IsComplete p d) (h : HasEighths p d k.root) (a : Coordinates) → IsOnCurve p d a
    → (a.x % p ≡ 0 → ⊥) → (a.y % p ≡ 0 → ⊥)
    → (IsTold p d k.root h a → IsEightTimes p d a)
    × (((a.y * a.y + a.x * a.x) % p ≡ 0 → ⊥) → IsEightTimes p d a → IsTold p d k.root h a)
