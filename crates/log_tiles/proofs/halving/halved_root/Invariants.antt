use Rattle.std.proofs.Common.{◌≡◌, ◌≤◌, ◌^◌, take}
use Rattle.log_tiles.specs.Audit.{rows_over}
use Rattle.log_tiles.proofs.halving.halved_root.Given as goal

abbrev pub invariant-levels : goal.invariant-levels
invariant-levels l = record {
  low : l.left ≤ l.height;
  same : rows_over (take (2 ^ l.left) l.digests) l.left ≡ rows_over (take (2 ^ l.height) l.initial.digests) l.height;
}

abbrev pub decreases-levels : goal.decreases-levels
decreases-levels l = l.left
