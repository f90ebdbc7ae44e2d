use Rattle.std.proofs.Common.{refl}
use Rattle.poseidon2.proofs.Drawn.{bn254-answers}
use Rattle.poseidon2.proofs.ready.bn254_poseidon2.Goals as goal

pub returns : goal.returns
returns c = bn254-answers _ _ _ _ refl c.in_ok-diagonal.ensures c.poseidon2_parameters.ensures
