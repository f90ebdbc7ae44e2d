-- The four numbers of extended coordinates.
use Rattle.ark_wide_fields.specs.declared.modulus.WideModulus.{Ghosts}
use Rattle.edwards.specs.declared.extended.Extended.{Extended}
use Rattle.edwards.specs.Values.{value}
use Rattle.edwards.proofs.ExtendedLaws.{Four}

abbrev pub numbers : {M : Type 0} {g : Ghosts M} → Extended M g → Four
numbers e = record { x = value e.x; y = value e.y; z = value e.z; t = value e.t }
