use Rattle.std.proofs.Common.{◌-◌}
use Rattle.kept_map.proofs.put.+put_at.Given as goal

abbrev pub decreases-put_at : goal.decreases-put_at
decreases-put_at l = 256 - l.level
