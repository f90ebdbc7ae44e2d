use Rattle.std.proofs.Common.{refl}
use Rattle.log_file.proofs.Pieces.{both-parts}
use Rattle.paxidore_calls.proofs.file_calls.checked.two_slots.Goals as goal

pub returns : goal.returns
returns c = rw (
  c.copy_from_slice.ensures.after,
  c.copy_from_slice-2.ensures.after,
) (both-parts 32 32 c.args.first.now c.args.second.now _ c.told-first refl)
