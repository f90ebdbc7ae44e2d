use Rattle.std.proofs.Common.{length}
use Rattle.kept_tree.proofs.Besides.{half-size, levels-known}
use Rattle.kept_tree.proofs.path.levels_of.Goals as goal

pub levels_between-requires : goal.levels_between-requires
levels_between-requires c = half-size (length c.args.memory.now) c.requires

pub returns : goal.returns
returns c = levels-known (length c.args.memory.now) c.levels_between.result c.requires c.levels_between.ensures
