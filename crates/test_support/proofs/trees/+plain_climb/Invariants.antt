use Rattle.std.proofs.Common.{length}
use Rattle.test_support.proofs.trees.+plain_climb.Given as goal

abbrev pub decreases-plain_climb : goal.decreases-plain_climb
decreases-plain_climb g l = length l.beside.now
