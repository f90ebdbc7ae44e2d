use Rattle.ark_poseidon.proofs.ConstantLength.{mark-is}
use Rattle.ark_poseidon.proofs.constant_length.count_mark.Goals as goal

pub returns : goal.returns
returns g c = mark-is _ _ _ _ _ _ c.from_u64.ensures c.from_u64-half.ensures c.mul.ensures c.mul-2.ensures
