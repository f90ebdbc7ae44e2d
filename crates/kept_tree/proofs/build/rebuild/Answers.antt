use Rattle.std.proofs.Common.{refl}
use Rattle.kept_tree.proofs.Rehashed.{rehashes-all}
use Rattle.kept_tree.proofs.build.rebuild.Goals as goal

pub returns-clause-tree : goal.returns-clause-tree
returns-clause-tree g c = λ is. rehashes-all g.H.ArrayHash.node_hash _ _ c.args.memory.now _ refl refl is
    c.rehash_first.ensures
