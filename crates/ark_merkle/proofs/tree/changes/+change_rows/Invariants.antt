use Rattle.std.proofs.Common.{◌-◌, length}
use Rattle.ark_merkle.proofs.tree.changes.+change_rows.Given as goal

abbrev pub decreases-change_rows : goal.decreases-change_rows
decreases-change_rows g l = length l.rows.now - l.row
