use Rattle.std.proofs.Common.{arith}
use Rattle.kept_map.proofs.Checks.{path-more}
use Rattle.kept_map.proofs.check.with_bit.Goals as goal

pub returns : goal.returns
returns c = path-more c.args.level c.args.path.now c.args.bit
    (let long = c.told-path in let inside = c.requires in omega (arith, long, inside))
