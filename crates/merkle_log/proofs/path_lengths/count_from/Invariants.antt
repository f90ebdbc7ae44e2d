use Rattle.std.proofs.Common.{◌≤◌, ◌<◌, ◌^◌, ℕ}
use Rattle.merkle_log.specs.Received.{length_from}
use Rattle.merkle_log.proofs.Lengths.{Leads}
use Rattle.merkle_log.proofs.path_lengths.count_from.Given as goal

abbrev pub invariant-complete : goal.invariant-complete
invariant-complete l = record {
  most : l.last ≤ l.initial.last;
  inside : l.index < l.last;
  at : (k : ℕ) → l.initial.last < 2 ^ k → Leads l.index l.last (length_from k l.initial.index l.initial.last);
}

abbrev pub decreases-complete : goal.decreases-complete
decreases-complete l = l.index
