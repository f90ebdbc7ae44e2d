use Rattle.std.proofs.Common.{◌/◌, length}
use Rattle.kept_tree.specs.JoinedTrees.{CopiesLevel}
use Rattle.kept_tree.proofs.join.copy_level.Given as goal

abbrev pub invariant-parts : goal.invariant-parts
invariant-parts l = CopiesLevel l.count (length l.parts / l.count) l.width l.n l.parts l.fn.tree l.tree
