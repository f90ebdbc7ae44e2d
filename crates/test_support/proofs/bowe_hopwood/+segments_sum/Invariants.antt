use Rattle.std.proofs.Common.{length}
use Rattle.test_support.proofs.bowe_hopwood.+segments_sum.Given as goal

abbrev pub decreases-segments_sum : goal.decreases-segments_sum
decreases-segments_sum g l = length l.elements.now
