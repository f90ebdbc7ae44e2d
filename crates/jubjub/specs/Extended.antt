-- Points by four coordinates, whose sums need no division.
use Rattle.ark_wide_fields.specs.declared.moduli.Bls12_381FrModulus.{Bls12_381FrModulus}
use Rattle.ark_wide_fields.specs.contracts.moduli.Bls12_381FrModulusWideModulus.TheImpl.{ghosts}
use Rattle.edwards.specs.declared.extended.Extended.{Extended as ExtendedOf}
use Rattle.edwards.specs.Stands.{StandFor}
use Rattle.jubjub.specs.Edwards.{Coordinates, over}
use Rattle.jubjub.specs.Jubjub.{p, IsInSubgroup}
use Rattle.jubjub.specs.Values.{value}

-- four coordinates
abbrev pub Extended : Type 0
Extended = ExtendedOf Bls12_381FrModulus ghosts

-- four coordinates X, Y, Z and T stand for the point with x = X / Z, y = Y / Z and x y = T / Z
abbrev pub Stands : Extended → Coordinates → Type 0
Stands e a = StandFor p (value e.x) (value e.y) (value e.z) (value e.t) a

-- the coordinates X / Z and Y / Z
abbrev pub affine_at : Extended → Coordinates
affine_at e = record { x = over p (value e.x) (value e.z); y = over p (value e.y) (value e.z) }

-- four coordinates stand for a point of the prime subgroup
pub record IsInside (e : Extended) : Type 0 where
  pub stands : Stands e (affine_at e)
  pub in_subgroup : IsInSubgroup (affine_at e)
