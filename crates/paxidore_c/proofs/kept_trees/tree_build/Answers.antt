use Rattle.std.proofs.Common.{◌≡◌, length, true, sym, ◌∙◌, arith}
use Rattle.ark_paths.specs.Index.{IsTreeSize}
use Rattle.kept_tree.specs.KeptTree.{is_tree_length, kept_leaves}
use Rattle.kept_tree.proofs.Lengths.{sized-length}
use Rattle.paxidore_calls.specs.Hashing.{hashing_by}
use Rattle.paxidore_c.proofs.Keeping.{held-leaves}
use Rattle.paxidore_c.proofs.kept_trees.tree_build.Goals as goal

pub returns-clause-tree : goal.returns-clause-tree
returns-clause-tree g c = λ done.
    let h = hashing_by g.H.ArrayHash.leaf_hash g.H.ArrayHash.node_hash in
    let memory = c.write_leaves.new.tree in
    let sized : IsTreeSize (length c.args.lengths.now) =
    c.is_tree_size.ensures.decides.0 c.if-not-is_tree_size.false in
    let long : is_tree_length (length memory) ≡ true = sized-length (length memory) (length c.args.lengths.now) sized
    (omega (arith, c.write_leaves.auto.tree, c.if-tree-lengths.false)) in
    held-leaves h c.rebuild.new.memory c.args.leaves.now c.args.lengths.now (kept_leaves memory)
    (sym c.is_tree_size.ensures.test ∙ c.if-not-is_tree_size.false) c.write_leaves.ensures
    (c.rebuild.ensures.tree long)
