use Rattle.std.proofs.Common.{◌≡◌, ◌+◌, ◌≤◌, [], length, map}
use Rattle.signed_notes.specs.Cutting.{lines_in}
use Rattle.signed_notes.specs.LogLists.{with_log_lines}
use Rattle.signed_notes.specs.LogListViews.{listed_parts}
use Rattle.signed_notes.proofs.log_list.with_log_lines.Given as goal

abbrev pub invariant-lines : goal.invariant-lines
invariant-lines l = record {
  lines : with_log_lines [] 0 (lines_in l.text)
      ≡ with_log_lines (map listed_parts l.logs.items) l.count (lines_in l.rest);
  less : l.count + length l.rest ≤ length l.text;
}

abbrev pub decreases-lines : goal.decreases-lines
decreases-lines l = length l.rest
