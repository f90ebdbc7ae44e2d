use Rattle.std.proofs.Common.{◌≡◌, ◌/◌, length, true, sym, arith}
use Rattle.std.proofs.lemmas.List.{length-drop}
use Rattle.kept_tree.specs.KeptTree.{is_tree_length, kept_leaves}
use Rattle.kept_tree.proofs.Lengths.{sized-length}
use Rattle.paxidore_calls.proofs.Blocks.{blocks-count, root-cut}
use Rattle.paxidore_calls.proofs.roots.root_by_blocks.Goals as goal

pub write_tops-requires-clause-count : goal.write_tops-requires-clause-count
write_tops-requires-clause-count g c = let blocks = blocks-count _ c.requires.size c.requires.many in sym blocks.1.1

pub returns : goal.returns
returns g c =
    let node = g.H.ArrayHash.node_hash in
    let top = c.write_tops.new.top in
    let count = length c.args.lengths.now / 1024 in
    let blocks = blocks-count (length c.args.lengths.now) c.requires.size c.requires.many in
    let long : length (kept_leaves top) ≡ count = omega (
      arith,
      c.write_tops.ensures.long,
      c.requires.top,
      length-drop (length top / 2) top,
    ) in
    let sized : is_tree_length (length top) ≡ true = sized-length (length top) count (blocks.0, blocks.1.0)
    (omega (arith, c.write_tops.ensures.long, c.requires.top)) in
    root-cut node g.H.ArrayHash.leaf_hash c.args.leaves.now c.args.lengths.now (kept_leaves top) c.kept_root.result.now
    c.requires.size c.requires.many long c.write_tops.ensures.roots
    (c.kept_root.ensures.tree node (kept_leaves top) (c.rebuild.ensures.tree sized))
