use Rattle.kept_tree.proofs.MultiPaths.{AreShared}
use Rattle.kept_tree.proofs.multi_path.shared_above.Given as goal

abbrev pub invariant-levels : goal.invariant-levels
invariant-levels l = AreShared l.memory l.before l.index l.levels l.done
