use Rattle.std.proofs.Common.{◌≡◌, ◌<◌, ◌≤◌, ◌%◌, ℕ}
use Rattle.merkle_log.specs.Walk.{index_up}
use Rattle.log_store.proofs.spots.read_lowest.Given as goal

abbrev pub invariant-levels : goal.invariant-levels
invariant-levels g l = record {
  left_is : l.left ≡ index_up l.level l.size;
  some : 0 < l.left;
  low : l.level ≤ 63;
  even : (below : ℕ) → below < l.level → index_up below l.size % 2 ≡ 0;
}

abbrev pub decreases-levels : goal.decreases-levels
decreases-levels g l = l.left
