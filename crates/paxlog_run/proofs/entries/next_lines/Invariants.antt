use Rattle.std.proofs.Common.{◌≡◌, ◌+◌, ◌≤◌, ◌++◌, length}
use Rattle.ark_crh.specs.Ahead.{lent}
use Rattle.paxlog_run.specs.Entries.{lines_of}
use Rattle.paxlog_run.proofs.entries.next_lines.Given as goal

abbrev pub invariant-lines : goal.invariant-lines
invariant-lines l =
    record {
      lines : lines_of l.bytes ≡ lent l.lines.items ++ lines_of l.rest;
      count : length l.lines.items ≤ l.counter;
      less : length l.rest + l.counter ≤ length l.bytes;
    }
