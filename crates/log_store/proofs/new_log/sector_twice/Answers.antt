use Rattle.std.proofs.Common.{refl}
use Rattle.log_file.proofs.Pieces.{both-parts}
use Rattle.log_store.proofs.new_log.sector_twice.Goals as goal

pub returns : goal.returns
returns c = rw (
  c.copy_from_slice.ensures.after,
  c.copy_from_slice-2.ensures.after,
) (both-parts 4096 4096 c.args.sector.now c.args.sector.now _ c.told-sector refl)
