use Rattle.std.proofs.Common.{refl, replicate, ℕ, arith}
use Rattle.log_file.proofs.Pieces.{both-parts}
use Rattle.log_store.proofs.sectors.head_of_parts.Goals as goal

pub returns : goal.returns
returns c =
    rw (c.copy_from_slice.ensures.after, c.copy_from_slice-2.ensures.after)
    (both-parts 64 32 c.args.first.now c.args.second.now (replicate {A = ℕ} 32 0) (omega arith) refl)
