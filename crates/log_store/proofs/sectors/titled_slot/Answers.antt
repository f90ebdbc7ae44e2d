use Rattle.std.proofs.Common.{refl, replicate, ℕ, arith}
use Rattle.log_file.proofs.Pieces.{both-parts}
use Rattle.log_store.proofs.sectors.titled_slot.Goals as goal

pub returns : goal.returns
returns c =
    rw (c.copy_from_slice.ensures.after, c.copy_from_slice-2.ensures.after)
    (both-parts 32 32 c.args.title.now c.args.slot.now (replicate {A = ℕ} 32 0) (omega arith) refl)
