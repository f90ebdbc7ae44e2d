use Rattle.std.proofs.Common.{arith}
use Rattle.log_tiles.proofs.Rows.{none-above}
use Rattle.log_tiles.proofs.tile.width_of.Goals as goal

pub returns-then-level-ge8 : goal.returns-then-level-ge8
returns-then-level-ge8 c =
    let none = none-above c.args.level c.args.size c.requires c.if-level-ge8.true in
    rw none (omega arith)
