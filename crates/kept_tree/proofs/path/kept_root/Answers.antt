use Rattle.kept_tree.proofs.HeldTrees.{held-root}
use Rattle.kept_tree.proofs.path.kept_root.Goals as goal

pub returns-clause-tree : goal.returns-clause-tree
returns-clause-tree c = λ node leaves. held-root node c.args.memory.now leaves
