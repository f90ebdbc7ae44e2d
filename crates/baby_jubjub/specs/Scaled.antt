-- The same points on a curve whose first coefficient is -1: the first coordinate times a factor.
use Rattle.std.specs.Prelude.{◌≡◌, ℕ, ◌+◌, ◌*◌, ◌%◌, ◌≤◌}
use Rattle.edwards.specs.Edwards.{Coordinates}

-- (s x, y)
abbrev pub scaled_by : ℕ → ℕ → Coordinates → Coordinates
scaled_by p s q = record { x = s * q.x % p; y = q.y }

-- Modulo p, s^2 is -a, e s^2 is d, and t is the inverse of s: so (x, y) is on a x^2 + y^2 = 1 + d x^2 y^2 exactly where
-- (s x, y) is on -x^2 + y^2 = 1 + e x^2 y^2.
pub record IsFactor (p a d e s t : ℕ) : Type 0 where
  pub two : 2 ≤ p
  pub square : (s * s + a) % p ≡ 0
  pub coefficient : e * (s * s) % p ≡ d % p
  pub inverse : s * t % p ≡ 1
