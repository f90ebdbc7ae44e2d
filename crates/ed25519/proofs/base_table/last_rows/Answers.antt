use Rattle.std.proofs.Common.{refl}
use Rattle.ed25519.specs.BaseTable.{four_rows_from, multiples_row}
use Rattle.ed25519.proofs.base_table.last_rows.Goals as goal

pub returns : goal.returns
unfolding four_rows_from multiples_row
returns c = refl
