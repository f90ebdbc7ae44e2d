use Rattle.paxidore_c.proofs.kept_trees.paxidore_tree_root.Goals as goal

pub returns-clause-tree : goal.returns-clause-tree
returns-clause-tree c = λ h leaves done holds. c.kept_root.ensures.tree h.node leaves holds
