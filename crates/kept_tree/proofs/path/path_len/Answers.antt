use Rattle.std.proofs.Common.{◌+◌, length, arith}
use Rattle.kept_tree.proofs.Besides.{level-small, levels-found}
use Rattle.kept_tree.proofs.PathWrites.{path-long}
use Rattle.kept_tree.proofs.path.path_len.Goals as goal

pub returns-clause-count : goal.returns-clause-count
returns-clause-count c = omega (arith, c.levels_of.ensures)

pub returns-clause-bytes : goal.returns-clause-bytes
returns-clause-bytes c = omega (
  arith,
  path-long c.args.memory.now c.requires.size c.told-memory c.args.index c.requires.index,
  returns-clause-count c,
)

pub overflow_mul-result : goal.overflow_mul-result
overflow_mul-result c =
    let tree = levels-found (length c.args.memory.now) _ c.requires.size c.levels_of.ensures in
    omega (arith, level-small {level = c.levels_of.result + 1} tree (omega arith) (omega (arith, c.well_formed)))

pub overflow_add-result : goal.overflow_add-result
overflow_add-result c =
    let tree = levels-found (length c.args.memory.now) _ c.requires.size c.levels_of.ensures in
    omega (arith, level-small {level = c.levels_of.result + 1} tree (omega arith) (omega (arith, c.well_formed)))
