use Rattle.std.proofs.Common.{length}
use Rattle.test_support.proofs.bowe_hopwood.+segment_scalar.Given as goal

abbrev pub decreases-segment_scalar : goal.decreases-segment_scalar
decreases-segment_scalar l = length l.chunks.now
