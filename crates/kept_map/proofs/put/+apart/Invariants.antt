use Rattle.std.proofs.Common.{◌-◌}
use Rattle.kept_map.proofs.put.+apart.Given as goal

abbrev pub decreases-apart : goal.decreases-apart
decreases-apart l = 256 - l.level
