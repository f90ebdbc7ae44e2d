use Rattle.std.proofs.Common.{◌≡◌, ◌≤◌, ◌-◌, ◌*◌, ◌^◌}
use Rattle.incremental_trees.proofs.nodes.edge_node.Given as goal

abbrev pub invariant-empty : goal.invariant-empty
invariant-empty g l = record {
  within : l.level ≤ l.top;
  whole : l.fn.size ≡ l.count * 2 ^ l.level;
}

abbrev pub decreases-empty : goal.decreases-empty
decreases-empty g l = l.top - l.level
