use Rattle.std.proofs.Common.{◌-◌}
use Rattle.kept_map.proofs.find.+find_in.Given as goal

abbrev pub decreases-find_in : goal.decreases-find_in
decreases-find_in l = 256 - l.level
