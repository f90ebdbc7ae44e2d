use Rattle.std.proofs.Common.{arith}
use Rattle.merkle_log.proofs.MultiCounts.{middle-machine, twice-fits}
use Rattle.merkle_log.proofs.multi_parts.middle_of.Goals as goal

pub overflow_mul-result : goal.overflow_mul-result
overflow_mul-result c = omega (arith, twice-fits c.args.level c.args.place c.requires.level c.requires.below)

pub overflow_add-result : goal.overflow_add-result
overflow_add-result c = omega (arith, twice-fits c.args.level c.args.place c.requires.level c.requires.below)

pub returns : goal.returns
returns c = middle-machine c.args.level c.args.place c.requires.level c.requires.below
