use Rattle.std.proofs.Common.{◌-◌, ◌≤◌}
use Rattle.kept_tree.specs.KeptTree.{Rehashes}
use Rattle.kept_tree.proofs.build.rehash_first.Given as goal

abbrev pub invariant-runs : goal.invariant-runs
invariant-runs g l = record {
  within : l.inner ≤ l.count;
  above : Rehashes g.H.ArrayHash.node_hash l.inner (l.count - l.inner) l.fn.memory l.memory;
}

abbrev pub decreases-runs : goal.decreases-runs
decreases-runs g l = l.inner
