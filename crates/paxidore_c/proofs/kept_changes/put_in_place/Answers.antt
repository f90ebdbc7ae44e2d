use Rattle.std.proofs.Common.{◌-◌, ◌/◌, drop, length, arith}
use Rattle.std.proofs.lemmas.List.{length-drop, length-take-le}
use Rattle.kept_tree.proofs.Lengths.{tree_length}
use Rattle.paxidore_c.proofs.kept_changes.put_in_place.Goals as goal

pub put_leaf_digests-requires-clause-inside : goal.put_leaf_digests-requires-clause-inside
put_leaf_digests-requires-clause-inside g c =
    let tree = c.args.tree.now in
    let first = length tree / 2 in
    let size = tree_length (length tree) c.requires.size in
    let behind = length-drop first tree in
    let part = length-take-le (length tree - first) (drop first tree) (omega (arith, behind)) in
    λ k d below. let inside = c.requires.inside k d below in omega (arith, inside, part, size.1)
