use Rattle.std.proofs.Common.{length}
use Rattle.test_support.proofs.groups.+number.Given as goal

abbrev pub decreases-number : goal.decreases-number
decreases-number l = length l.bytes.now
