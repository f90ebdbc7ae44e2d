use Rattle.std.proofs.Common.{◌-◌}
use Rattle.merkle_map.proofs.put.+apart.Given as goal

abbrev pub decreases-apart : goal.decreases-apart
decreases-apart g l = 256 - l.level
