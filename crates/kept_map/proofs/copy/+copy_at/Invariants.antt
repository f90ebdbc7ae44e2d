use Rattle.std.proofs.Common.{◌-◌}
use Rattle.kept_map.proofs.copy.+copy_at.Given as goal

abbrev pub decreases-copy_at : goal.decreases-copy_at
decreases-copy_at l = 256 - l.level
