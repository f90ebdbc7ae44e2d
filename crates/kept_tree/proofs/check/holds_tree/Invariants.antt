use Rattle.std.proofs.Common.{ℕ, ◌-◌, ◌<◌}
use Rattle.kept_tree.specs.KeptTree.{IsHashed}
use Rattle.kept_tree.proofs.check.holds_tree.Given as goal

abbrev pub invariant-runs : goal.invariant-runs
invariant-runs g l = (i : ℕ) → i < l.first → IsHashed g.H.ArrayHash.node_hash l.memory i

abbrev pub decreases-runs : goal.decreases-runs
decreases-runs g l = l.inner - l.first
