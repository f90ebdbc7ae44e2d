use Rattle.std.proofs.Common.{◌≡◌, length}
use Rattle.std.specs.List.{list_all}
use Rattle.signed_notes.specs.Checkpoints.{is_line}
use Rattle.signed_notes.specs.Cutting.{lines_in}
use Rattle.signed_notes.proofs.checkpoint.are_lines.Given as goal

abbrev pub invariant-lines : goal.invariant-lines
invariant-lines l = list_all is_line (lines_in l.bytes) ≡ list_all is_line (lines_in l.rest)

abbrev pub decreases-lines : goal.decreases-lines
decreases-lines l = length l.rest
