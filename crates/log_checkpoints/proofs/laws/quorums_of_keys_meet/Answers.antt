use Rattle.log_checkpoints.proofs.HeldKeys.{held-together}
use Rattle.log_checkpoints.proofs.laws.quorums_of_keys_meet.Goals as goal

pub returns : goal.returns
returns c = held-together
