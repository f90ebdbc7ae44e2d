use Rattle.std.proofs.Common.{refl}
use Rattle.ark_groups.specs.Bits.{bits_of_number}
use Rattle.ark_bowe_hopwood.proofs.node.level_bits.Goals as goal

pub returns : goal.returns
unfolding bits_of_number
returns c = refl
