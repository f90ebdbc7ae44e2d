-- The numbers that elements of the two fields are.
use Rattle.std.specs.Prelude.{ℕ}
use Rattle.ark_wide_fields.specs.declared.moduli.Bn254FrModulus.{Bn254FrModulus}
use Rattle.ark_wide_fields.specs.contracts.moduli.Bn254FrModulusWideModulus.TheImpl.{ghosts}
use Rattle.ark_wide_fields.specs.declared.fp256.Fp256.{Fp256}
use Rattle.ark_wide_fields.specs.Moduli.{value_of}
use Rattle.baby_jubjub.specs.declared.fr.BabyJubjubFrModulus.{BabyJubjubFrModulus}
use Rattle.baby_jubjub.specs.contracts.fr.BabyJubjubFrModulusWideModulus.TheImpl.{ghosts as scalar_ghosts}

-- the field of the coordinates
abbrev pub CoordinateElement : Type 0
CoordinateElement = Fp256 Bn254FrModulus ghosts

-- the number that a coordinate is
abbrev pub value : CoordinateElement → ℕ
value x = value_of ghosts.P ghosts.INVERSE x.form

-- the scalars
abbrev pub OrderElement : Type 0
OrderElement = Fp256 BabyJubjubFrModulus scalar_ghosts

-- the number that a scalar is
abbrev pub scalar_number : OrderElement → ℕ
scalar_number s = value_of scalar_ghosts.P scalar_ghosts.INVERSE s.form
