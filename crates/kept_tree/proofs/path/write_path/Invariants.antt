use Rattle.kept_tree.proofs.PathWrites.{PathUpTo}
use Rattle.kept_tree.proofs.path.write_path.Given as goal

abbrev pub invariant-levels : goal.invariant-levels
invariant-levels l = PathUpTo l.fn.buffer l.memory l.index l.levels l.buffer l.done
