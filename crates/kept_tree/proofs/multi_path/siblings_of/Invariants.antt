use Rattle.std.proofs.Common.{◌≡◌, map, take}
use Rattle.kept_tree.specs.KeptTree.{kept_beside}
use Rattle.kept_tree.proofs.multi_path.siblings_of.Given as goal

abbrev pub invariant-indexes : goal.invariant-indexes
invariant-indexes l = l.digests.items ≡ map (λ index. kept_beside l.memory index 0) (take l.index-index l.fn.indexes)
