use Rattle.std.proofs.Common.{◌≡◌, ◌+◌, ◌≤◌, length}
use Rattle.signed_notes.specs.Cutting.{lines_in}
use Rattle.signed_notes.proofs.cutting.line_count.Given as goal

abbrev pub invariant-lines : goal.invariant-lines
invariant-lines l = record {
  lines : l.count + length (lines_in l.rest) ≡ length (lines_in l.bytes);
  less : l.count + length l.rest ≤ length l.bytes;
}

abbrev pub decreases-lines : goal.decreases-lines
decreases-lines l = length l.rest
