use Rattle.ark_paths.proofs.Tables.{number_above-none}
use Rattle.ark_paths.proofs.multi_path.walk.number_above.Goals as goal

pub returns-else-level-lt63 : goal.returns-else-level-lt63
returns-else-level-lt63 c = number_above-none c.args.index c.args.level c.ranges.index.fits c.if-level-lt63.false
