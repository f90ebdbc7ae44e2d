use Rattle.std.proofs.Common.{length}
use Rattle.test_support.proofs.bowe_hopwood.+digits_sum.Given as goal

abbrev pub decreases-digits_sum : goal.decreases-digits_sum
decreases-digits_sum g l = length l.elements.now
