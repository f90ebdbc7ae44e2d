use Rattle.std.proofs.Common.{◌-◌, drop, length}
use Rattle.ark_merkle.specs.Batch.{last_changes}
use Rattle.ark_merkle.specs.Changed.{lent_changes, seen_changes}
use Rattle.ark_merkle.proofs.Batches.{AreHashedSoFar}
use Rattle.ark_merkle.proofs.tree.batch.hash_last.Given as goal

-- the leaves before those that are left are hashed
abbrev pub invariant-runs : goal.invariant-runs
invariant-runs g l =
    AreHashedSoFar (g.T.TreeHasher.hashes l.hasher).leaf (last_changes l.changes) (seen_changes g.L.Numbered.numbers
    l.digests.items) (drop l.next (lent_changes l.last))

abbrev pub decreases-runs : goal.decreases-runs
decreases-runs g l = length l.last.items - l.next
