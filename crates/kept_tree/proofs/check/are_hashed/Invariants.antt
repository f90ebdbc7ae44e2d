use Rattle.std.proofs.Common.{ℕ, ◌+◌, ◌<◌, ◌≤◌}
use Rattle.kept_tree.specs.KeptTree.{IsHashed}
use Rattle.kept_tree.proofs.check.are_hashed.Given as goal

abbrev pub invariant-places : goal.invariant-places
invariant-places g l =
    (i : ℕ) → l.first ≤ i → i < l.first + l.n → IsHashed g.H.ArrayHash.node_hash l.memory i
