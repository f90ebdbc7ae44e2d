use Rattle.std.proofs.Common.{refl}
use Rattle.log_file.proofs.Pieces.{both-parts}
use Rattle.log_file.proofs.head.twice.Goals as goal

pub returns : goal.returns
returns c = rw (
  c.copy_from_slice.ensures.after,
  c.copy_from_slice-2.ensures.after,
) (both-parts 32 32 c.args.slot.now c.args.slot.now _ c.told-slot refl)
