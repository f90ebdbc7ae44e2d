use Rattle.kept_tree.proofs.LevelByLevel.{AboveUpTo}
use Rattle.kept_tree.proofs.many.rehash_above.Given as goal

abbrev pub invariant-levels : goal.invariant-levels
invariant-levels g l = AboveUpTo g.H.ArrayHash.node_hash l.fn.memory l.memory l.levels l.level l.indexes
