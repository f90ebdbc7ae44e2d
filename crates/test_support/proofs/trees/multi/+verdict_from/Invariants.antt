use Rattle.std.proofs.Common.{length}
use Rattle.test_support.proofs.trees.multi.+verdict_from.Given as goal

abbrev pub decreases-verdict_from : goal.decreases-verdict_from
decreases-verdict_from g l = length l.indexes.now
