use Rattle.std.proofs.Common.{refl}
use Rattle.log_file.specs.LogFile.{slot_front, statement}
use Rattle.log_file.proofs.Heads.{length-front}
use Rattle.log_file.proofs.Pieces.{both-parts}
use Rattle.log_file.proofs.head.slot_of.Goals as goal

pub returns : goal.returns
returns c = rw (
  c.copy_from_slice.ensures.after,
  c.front_of.ensures,
  c.copy_from_slice-2.ensures.after,
  c.statement_of.ensures,
) (both-parts 20 12 (slot_front c.args.size) (statement c.args.size c.args.root.now) _
    (length-front c.args.size) refl)
