use Rattle.std.proofs.Common.{◌-◌, ◌≤◌}
use Rattle.paxlog_run.proofs.Lines.{AreWhole}
use Rattle.paxlog_run.proofs.entries.whole_lines.Given as goal

abbrev pub invariant-lines : goal.invariant-lines
invariant-lines l = record {
  whole : AreWhole l.bytes l.end l.count;
  few : l.count ≤ l.most;
}

abbrev pub decreases-lines : goal.decreases-lines
decreases-lines l = l.most - l.count
