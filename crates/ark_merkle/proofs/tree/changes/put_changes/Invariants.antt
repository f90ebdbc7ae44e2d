use Rattle.std.proofs.Common.{map}
use Rattle.ark_merkle.proofs.Batches.{ArePutSoFar}
use Rattle.ark_merkle.proofs.tree.changes.put_changes.Given as goal

abbrev pub invariant-loop-n : goal.invariant-loop-n
invariant-loop-n g l =
    let numbers = g.D.Numbered.numbers in
    ArePutSoFar numbers l.initial.changes.items (map numbers l.initial.digests) l.n (map numbers l.digests)
    l.changes.items
