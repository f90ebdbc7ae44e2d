use Rattle.std.proofs.Common.{arith}
use Rattle.merkle_log.proofs.Verdicts.{pow_above}
use Rattle.merkle_log.proofs.path_lengths.inclusion_length.Goals as goal

pub returns : goal.returns
returns c = c.count_beside.ensures.count c.args.size (omega (arith, pow_above c.args.size))
