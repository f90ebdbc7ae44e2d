-- Points by four coordinates, whose sums need no division.
use Rattle.std.specs.Prelude.{◌≡◌, ℕ, ◌<◌, List, get_or}
use Rattle.ark_groups.specs.Group.{times}
use Rattle.ark_groups.specs.Words.{number}
use Rattle.ark_wide_fields.specs.declared.modulus.WideModulus.{Ghosts}
use Rattle.ark_wide_fields.specs.declared.fp256.Fp256.{Fp256}
use Rattle.edwards.specs.declared.extended.Extended.{Extended}
use Rattle.edwards.specs.Edwards.{Coordinates, edwards}
use Rattle.edwards.specs.Stands.{StandFor, StandForApart}
use Rattle.edwards.specs.Values.{value}

-- the point of two elements of the field
abbrev pub point : {M : Type 0} {g : Ghosts M} → Fp256 M g → Fp256 M g → Coordinates
point x y = record { x = value x; y = value y }

-- the third of four coordinates
abbrev pub scale_of : {M : Type 0} {g : Ghosts M} → Extended M g → Fp256 M g
scale_of e = e.z

-- four coordinates stand for a point
abbrev pub Stands : {M : Type 0} {g : Ghosts M} → Extended M g → Coordinates → Type 0
Stands {M} {g} e a = StandFor (number g.P) (value e.x) (value e.y) (value e.z) (value e.t) a

-- the first three of four coordinates stand for a point
abbrev pub StandsApart : {M : Type 0} {g : Ghosts M} → Extended M g → Coordinates → Type 0
StandsApart {M} {g} e a = StandForApart (number g.P) (value e.x) (value e.y) (value e.z) a

-- four zeros, which stand for no point
pub record IsBlank {M : Type 0} {g : Ghosts M} (e : Extended M g) : Type 0 where
  pub x_is : value e.x ≡ 0
  pub y_is : value e.y ≡ 0
  pub z_is : value e.z ≡ 0
  pub t_is : value e.t ≡ 0

-- the four coordinates at an index of a list stand for a point
abbrev pub StandsAt : {M : Type 0} {g : Ghosts M} → List (Extended M g) → ℕ → Coordinates → Type 0
StandsAt {M} {g} table index a = (e : Extended M g) → Stands (get_or table index e) a

-- the first n of a list stand for the multiples of a point by 0, 1, 2 ..
abbrev pub AreMultiples : {M : Type 0} {g : Ghosts M} → ℕ → Coordinates → ℕ → List (Extended M g) → Type 0
AreMultiples {M} {g} d a n table = (k : ℕ) → k < n → StandsAt table k (times (edwards (number g.P) d) k a)
