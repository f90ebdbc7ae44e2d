use Rattle.std.proofs.Common.{◌-◌, length}
use Rattle.ark_merkle.proofs.HashedCouples.{AreCouplesHashed}
use Rattle.ark_merkle.proofs.tree.changes.hash_reached_leaves.Given as goal

abbrev pub invariant-runs : goal.invariant-runs
invariant-runs g l = AreCouplesHashed (g.T.TreeHasher.hashes l.hasher).pair.bottom g.L.Numbered.numbers
    g.D.Numbered.numbers l.leaves l.changes l.next l.above.items

abbrev pub decreases-runs : goal.decreases-runs
decreases-runs g l = length l.changes - l.next
