use Rattle.std.proofs.Common.{◌+◌, ◌≤◌, ◌<◌, ◌^◌, ℕ}
use Rattle.merkle_log.specs.Walk.{used_below}
use Rattle.merkle_log.proofs.Lengths.{Counts}
use Rattle.merkle_log.proofs.path_lengths.count_beside.Given as goal

abbrev pub invariant-levels : goal.invariant-levels
invariant-levels l = record {
  most : l.used + l.last ≤ l.initial.last;
  at : (k : ℕ) → l.initial.last < 2 ^ k → Counts l.index l.last l.used (used_below k l.initial.index l.initial.last);
}

abbrev pub decreases-levels : goal.decreases-levels
decreases-levels l = l.last
