use Rattle.std.proofs.Common.{arith}
use Rattle.merkle_log.proofs.Positions.{length-row_of}
use Rattle.log_store.proofs.proving.inclusion_over.Goals as goal

pub inclusion_path_of-requires-clause-within : goal.inclusion_path_of-requires-clause-within
inclusion_path_of-requires-clause-within g c = omega (arith, length-row_of g.W.Whole.whole 0, c.requires.size)
