use Rattle.std.proofs.Common.{◌-◌, ◌<◌, ◌≤◌}
use Rattle.merkle_log.specs.Stored.{stored_count}
use Rattle.log_tiles.proofs.tiled.completing_leaf.Given as goal

abbrev pub invariant-halves : goal.invariant-halves
invariant-halves l = record {
  some : l.first < l.end;
  inside : l.end ≤ l.size;
  from : stored_count l.first ≤ l.position;
  below : l.position < stored_count l.end;
}

abbrev pub decreases-halves : goal.decreases-halves
decreases-halves l = l.end - l.first
