use Rattle.kept_tree.specs.KeptTree.{kept_leaves}
use Rattle.kept_tree.proofs.Lengths.{held-length}
use Rattle.paxidore_c.proofs.kept_trees.tree_check.Goals as goal

pub returns-then-not-is_tree_length-clause-holds : goal.returns-then-not-is_tree_length-clause-holds
returns-then-not-is_tree_length-clause-holds g c = (
  λ zero. let no = rw c.code.ensures at zero in absurd cc,
  λ holds. let is = held-length g.H.ArrayHash.node_hash c.args.tree.now (kept_leaves c.args.tree.now) holds in
      let test = c.is_tree_length.ensures.test in
      let no = c.if-not-is_tree_length.true in absurd cc,
)
