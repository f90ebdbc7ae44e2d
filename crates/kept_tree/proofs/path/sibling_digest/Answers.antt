use Rattle.std.proofs.Common.{◌+◌, ◌-◌, ◌/◌, ◌^◌, ℕ, [], length, get_or, ap, ◌∙◌, arith}
use Rattle.ark_paths.specs.Index.{neighbour}
use Rattle.kept_tree.proofs.Besides.{beside-below, beside-some, has_levels, level-small}
use Rattle.kept_tree.proofs.path.sibling_digest.Goals as goal

pub overflow_shr-size : goal.overflow_shr-size
overflow_shr-size c =
    level-small (has_levels (length c.args.memory.now) c.requires.size) (omega (arith, c.requires.level))
    (omega (arith, c.well_formed))

pub overflow_sub-result : goal.overflow_sub-result
overflow_sub-result c =
    let tree = has_levels (length c.args.memory.now) c.requires.size in
    omega (arith, beside-some tree tree.half c.requires.index c.requires.level, c.neighbour_of.ensures)

pub bounds-memory-neighbour_of : goal.bounds-memory-neighbour_of
bounds-memory-neighbour_of c =
    let tree = has_levels (length c.args.memory.now) c.requires.size in
    let below = beside-below tree tree.half c.requires.index c.requires.level in
    omega (arith, overflow_sub-result c, below, c.neighbour_of.ensures)

pub returns : goal.returns
returns c =
    ap (λ (n : ℕ). get_or c.args.memory.now (n - 1) []) c.neighbour_of.ensures
    ∙ ap (λ (n : ℕ). get_or c.args.memory.now (neighbour ((n + c.args.index) / 2 ^ c.args.level) - 1) [])
    (has_levels (length c.args.memory.now) c.requires.size).half
