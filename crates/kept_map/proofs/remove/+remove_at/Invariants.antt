use Rattle.std.proofs.Common.{◌-◌}
use Rattle.kept_map.proofs.remove.+remove_at.Given as goal

abbrev pub decreases-remove_at : goal.decreases-remove_at
decreases-remove_at l = 256 - l.level
