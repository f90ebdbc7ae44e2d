-- The numbers that elements of the scalar field of BLS12-381 are, and those that scalars are.
use Rattle.std.specs.Prelude.{ℕ}
use Rattle.ark_wide_fields.specs.declared.moduli.Bls12_381FrModulus.{Bls12_381FrModulus}
use Rattle.ark_wide_fields.specs.contracts.moduli.Bls12_381FrModulusWideModulus.TheImpl.{ghosts}
use Rattle.ark_wide_fields.specs.declared.fp256.Fp256.{Fp256}
use Rattle.ark_wide_fields.specs.Moduli.{value_of}
use Rattle.jubjub.specs.declared.fr.JubjubFrModulus.{JubjubFrModulus}
use Rattle.jubjub.specs.contracts.fr.JubjubFrModulusWideModulus.TheImpl.{ghosts as scalar_ghosts}

-- the elements of the field
abbrev pub Fr : Type 0
Fr = Fp256 Bls12_381FrModulus ghosts

-- the number that an element of the field is
abbrev pub value : Fr → ℕ
value x = value_of ghosts.P ghosts.INVERSE x.form

-- the scalars
abbrev pub Scalar : Type 0
Scalar = Fp256 JubjubFrModulus scalar_ghosts

-- the number that a scalar is
abbrev pub scalar_value : Scalar → ℕ
scalar_value s = value_of scalar_ghosts.P scalar_ghosts.INVERSE s.form
