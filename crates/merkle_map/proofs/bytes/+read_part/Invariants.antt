use Rattle.std.proofs.Common.{◌-◌}
use Rattle.merkle_map.proofs.bytes.+read_part.Given as goal

abbrev pub decreases-read_part : goal.decreases-read_part
decreases-read_part l = 256 - l.level
