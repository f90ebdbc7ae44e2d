-- Points that are prepared for sums by their four coordinates.
use Rattle.std.specs.Prelude.{◌≡◌, ℕ, ◌+◌, ◌-◌, ◌*◌, ◌%◌, ◌<◌, List, get_or, nat_lt, if◌then◌else◌}
use Rattle.ark_groups.specs.Group.{times}
use Rattle.ark_groups.specs.Words.{number}
use Rattle.ark_wide_fields.specs.declared.modulus.WideModulus.{Ghosts}
use Rattle.edwards.specs.declared.extended.cached.Cached.{Cached}
use Rattle.edwards.specs.Edwards.{Coordinates}
use Rattle.edwards.specs.Curves.{IsComplete}
use Rattle.edwards.specs.Laws.Points.{Point, points}
use Rattle.edwards.specs.Stands.{StandFor}
use Rattle.edwards.specs.Values.{value}

-- four numbers are Y - X, Y + X, 2 Z and 2 d T modulo p, where X, Y, Z and T stand for a point
pub record AreCached (p d less more scale cross : ℕ) (a : Coordinates) : Type 0 where
  pub X : ℕ
  pub Y : ℕ
  pub Z : ℕ
  pub T : ℕ
  pub x_below : X < p
  pub t_below : T < p
  pub stands : StandFor p X Y Z T a
  pub less_is : less ≡ (Y + (p - X)) % p
  pub more_is : more ≡ (Y + X) % p
  pub scale_is : scale ≡ 2 * Z % p
  pub cross_is : cross ≡ 2 * d % p * T % p

-- a prepared point is that point
abbrev pub IsCached : {M : Type 0} {g : Ghosts M} → ℕ → Cached M g → Coordinates → Type 0
IsCached {M} {g} d b a = AreCached (number g.P) d (value b.less) (value b.more) (value b.scale) (value b.cross) a

-- the first n of a list are the multiples of a point by 1, 3, 5 ..
abbrev pub AreOddMultiples : {M : Type 0} {g : Ghosts M} (d : ℕ) (k : IsComplete (number g.P) d)
    → Point (number g.P) d k → ℕ → List (Cached M g) → Type 0
AreOddMultiples {M} {g} d k s n table =
    (i : ℕ) (e : Cached M g) → i < n → IsCached d (get_or table i e) (times (points (number g.P) d k) (2 * i + 1) s).at

-- the multiple by a signed digit
unfoldable pub signed_multiple : (p d : ℕ) (k : IsComplete p d) → ℕ → Point p d k → Point p d k
signed_multiple p d k c s =
    if nat_lt c 16 then times (points p d k) c s else (points p d k).opposite (times (points p d k) (32 - c) s)
