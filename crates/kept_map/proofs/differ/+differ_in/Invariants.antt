use Rattle.std.proofs.Common.{◌-◌}
use Rattle.kept_map.proofs.differ.+differ_in.Given as goal

abbrev pub decreases-differ_in : goal.decreases-differ_in
decreases-differ_in l = 256 - l.level
