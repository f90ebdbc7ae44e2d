use Rattle.std.proofs.Common.{length}
use Rattle.kept_tree.proofs.Besides.{has_levels}
use Rattle.kept_tree.proofs.multi_path.siblings_of.Goals as goal

pub sibling_digest-requires-clause-level : goal.sibling_digest-requires-clause-level
sibling_digest-requires-clause-level c = (has_levels (length c.args.memory.now) c.requires.size).some
