use Rattle.std.proofs.Common.{arith}
use Rattle.merkle_log.proofs.Positions.{length-row_of}
use Rattle.log_store.proofs.proving.consistency_over.Goals as goal

pub consistency_path_of-requires-clause-within : goal.consistency_path_of-requires-clause-within
consistency_path_of-requires-clause-within g c = omega (arith, length-row_of g.W.Whole.whole 0, c.requires.size)
