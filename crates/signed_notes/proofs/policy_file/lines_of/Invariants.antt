use Rattle.std.proofs.Common.{◌≡◌, ◌+◌, ◌≤◌, length}
use Rattle.signed_notes.specs.Cutting.{lines_in}
use Rattle.signed_notes.specs.PolicyFiles.{no_lines, with_lines}
use Rattle.signed_notes.specs.PolicyViews.{lines_parts}
use Rattle.signed_notes.proofs.policy_file.lines_of.Given as goal

abbrev pub invariant-lines : goal.invariant-lines
invariant-lines l = record {
  lines : with_lines no_lines 0 (lines_in l.text) ≡ with_lines (lines_parts l.lines) l.count (lines_in l.rest);
  less : l.count + length l.rest ≤ length l.text;
}

abbrev pub decreases-lines : goal.decreases-lines
decreases-lines l = length l.rest
