-- Points of Baby Jubjub by elements of the field, and why coordinates are those of none.
use Rattle.std.specs.Prelude.{◌<◌, ◌≤◌, ◌⊎◌}
use Rattle.edwards.specs.Edwards.{Coordinates}
use Rattle.baby_jubjub.specs.declared.point.Point.{Point}
use Rattle.baby_jubjub.specs.declared.point.PointFault.{PointFault}
use Rattle.baby_jubjub.specs.declared.point.PointFault.TheVariants.{NotBelowModulus, NotOnCurve, SignOfZero}
use Rattle.baby_jubjub.specs.declared.point.PointFault.TheVariants.{OutsideSubgroup}
use Rattle.baby_jubjub.specs.BabyJubjub.{p, IsOnBabyJubjub}
use Rattle.baby_jubjub.specs.Values.{CoordinateElement, value}

-- the coordinates that two elements of the field are
abbrev pub coordinates_at : CoordinateElement → CoordinateElement → Coordinates
coordinates_at x y = record { x = value x; y = value y }

-- the coordinates of a point
abbrev pub coordinates : Point → Coordinates
coordinates q = coordinates_at q.x q.y

-- why two numbers are not the coordinates of a point: one is the modulus or more, or else they do not satisfy the
-- equation
abbrev pub IsCoordinateFault : Coordinates → PointFault → Type 0
IsCoordinateFault q NotBelowModulus = (p ≤ q.x) ⊎ (p ≤ q.y)
IsCoordinateFault q NotOnCurve = (q.x < p) × (q.y < p) × (IsOnBabyJubjub q → ⊥)
IsCoordinateFault q SignOfZero = ⊥
IsCoordinateFault q OutsideSubgroup = ⊥
