use Rattle.std.proofs.Common.{◌≡◌, [], map, take, get_or}
use Rattle.ark_paths.specs.Index.{neighbour}
use Rattle.ark_merkle.proofs.tree.multi_proof.digests_at_neighbours.Given as goal

abbrev pub invariant-loop-index : goal.invariant-loop-index
invariant-loop-index g l =
    let numbers = g.D.Numbered.numbers in
    map numbers l.digests.items ≡ map (λ i. get_or (map numbers l.leaves) (neighbour i) [])
    (take l.index-index l.indexes)
