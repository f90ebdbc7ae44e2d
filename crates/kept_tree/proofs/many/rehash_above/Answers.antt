use Rattle.std.proofs.Common.{◌+◌, length, arith}
use Rattle.kept_tree.proofs.Besides.{level-small, levels-found}
use Rattle.kept_tree.proofs.LevelByLevel.{above-all, above-more, above-none}
use Rattle.kept_tree.proofs.many.rehash_above.Goals as goal

pub overflow_add-levels : goal.overflow_add-levels
overflow_add-levels g c =
    let tree = levels-found (length c.args.memory.now) _ c.requires.size c.levels_of-levels.ensures in
    let small = level-small {level = c.levels_of-levels.result + 1} tree (omega arith)
    (omega (arith, c.well_formed)) in
    omega (arith, small)

pub levels-init : goal.levels-init
levels-init g c =
    above-none g.H.ArrayHash.node_hash c.args.memory.now (levels-found _ _ c.requires.size
    c.levels_of-levels.ensures)
    c.args.indexes.now (λ j below. c.requires.indexes j 0 below)

pub hash_level-requires-clause-high : goal.hash_level-requires-clause-high
hash_level-requires-clause-high g c =
    rw c.levels.invariant.long (omega (arith, c.levels_of-levels.ensures))

pub levels-preserved : goal.levels-preserved
levels-preserved g c =
    above-more g.H.ArrayHash.node_hash c.args.memory.now (levels-found _ _ c.requires.size
    c.levels_of-levels.ensures)
    c.args.indexes.now (λ j below. c.requires.indexes j 0 below) c.levels.memory c.hash_level.new.memory c.levels.level
    (omega arith) c.levels.invariant c.hash_level.ensures

pub returns : goal.returns
returns g c =
    above-all g.H.ArrayHash.node_hash c.args.memory.now (levels-found _ _ c.requires.size
    c.levels_of-levels.ensures)
    c.args.indexes.now (λ j below. c.requires.indexes j 0 below) c.levels.memory c.levels.level (omega arith)
    c.levels.invariant
