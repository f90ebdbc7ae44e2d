use Rattle.std.proofs.Common.{◌≡◌, ◌-◌, length, arith}
use Rattle.ark_base.proofs.Refusals.{passed_on}
use Rattle.ark_merkle.proofs.Compares.{leaves-some, own-here, beside-here, climb-first, climb-first-refused, differs-first, differs-end, step-fits, own-in_row, beside-in_row, climb-refused, climb-more, differs-more}
use Rattle.ark_merkle.proofs.tree.bind.compare.Goals as goal

pub nonzero_rem-index : goal.nonzero_rem-index
nonzero_rem-index g c =
    let some = leaves-some _ _ _ _ c.requires.tree _ c.requires.count c.args.path_index in
    omega arith

pub bounds-leaves-index : goal.bounds-leaves-index
bounds-leaves-index g c = own-here _ _ _ _ c.requires.tree _ c.requires.count c.args.path_index

pub offset_bounds-leaves-index : goal.offset_bounds-leaves-index
offset_bounds-leaves-index g c = omega (arith, bounds-leaves-index g c)

pub bounds-leaves-neighbour_of : goal.bounds-leaves-neighbour_of
bounds-leaves-neighbour_of g c =
    rw c.neighbour_of.ensures (beside-here _ _ _ _ c.requires.tree _ c.requires.count c.args.path_index)

pub offset_bounds-leaves-neighbour_of : goal.offset_bounds-leaves-neighbour_of
offset_bounds-leaves-neighbour_of g c = omega (arith, bounds-leaves-neighbour_of g c)

pub at-own-requires-clause-place : goal.at-own-requires-clause-place
at-own-requires-clause-place g c =
    own-in_row _ _ _ _ c.requires.tree _ c.requires.count c.args.path_index c.loop-step.step (omega arith)

pub at-requires-clause-place : goal.at-requires-clause-place
at-requires-clause-place g c = rw c.neighbour_of-in-loop-step.ensures
    (beside-in_row _ _ _ _ c.requires.tree _ c.requires.count c.args.path_index c.loop-step.step (omega arith))

pub overflow_shr-place : goal.overflow_shr-place
overflow_shr-place g c =
    let fits = step-fits _ _ _ _ c.requires.tree _ c.requires.count c.args.path_index c.loop-step.step (omega arith)
    c.requires.fits in
    omega arith

pub loop-step-init : goal.loop-step-init
loop-step-init g c =
    let climbs = climb-first _ _ _ _ c.requires.tree c.args.above.now c.requires.count c.args.path_index
    g.D.Numbered.numbers (g.L.Numbered.numbers c.args.sibling.now) (g.L.Numbered.numbers c.args.digest.now) _ _
    c.is_bit_set.ensures c.in_ok-current.ensures in
    let differs = differs-first _ _ _ _ c.requires.tree c.args.above.now c.requires.count c.args.path_index
    g.D.Numbered.numbers (g.L.Numbered.numbers c.args.sibling.now) (g.L.Numbered.numbers c.args.digest.now) _ _ _ _ _
    c.are_both-is_own.ensures c.index-leaves-index.is c.neighbour_of.ensures c.index-leaves-neighbour_of.is
    c.other_at-difference.ensures in
    (climbs, differs)

pub returns-in_err-current-clause-top : goal.returns-in_err-current-clause-top
returns-in_err-current-clause-top g c =
    passed_on _ _ c.from_residual.result _ c.from_residual.ensures.1 c.in_err-current.ensures
    (climb-first-refused _ _ _ _ c.requires.tree c.args.above.now c.requires.count c.args.path_index
    g.D.Numbered.numbers (g.L.Numbered.numbers c.args.sibling.now) (g.L.Numbered.numbers c.args.digest.now) _
    c.is_bit_set.ensures c.in_err-current.field-0.0)

pub returns-in_err-current-2-clause-top : goal.returns-in_err-current-2-clause-top
returns-in_err-current-2-clause-top g c =
    passed_on _ _ c.from_residual-in_err-current-2.result _ c.from_residual-in_err-current-2.ensures.1
    c.in_err-current-2.ensures (climb-refused _ _ _ _ c.requires.tree c.args.above.now c.requires.count
    c.args.path_index g.D.Numbered.numbers (g.L.Numbered.numbers c.args.sibling.now)
    (g.L.Numbered.numbers c.args.digest.now) c.loop-step.step (omega arith) _ c.loop-step.invariant.0 _
    c.index-above-level.is _ c.is_bit_set-in-loop-step.ensures c.in_err-current-2.field-0.0)

pub loop-step-preserved : goal.loop-step-preserved
loop-step-preserved g c =
    let climbs = climb-more _ _ _ _ c.requires.tree c.args.above.now c.requires.count c.args.path_index
    g.D.Numbered.numbers (g.L.Numbered.numbers c.args.sibling.now) (g.L.Numbered.numbers c.args.digest.now)
    c.loop-step.step (omega arith) _ c.loop-step.invariant.0 _ c.index-above-level.is _ _
    c.is_bit_set-in-loop-step.ensures c.in_ok-current-2.ensures in
    let differs = differs-more _ _ _ _ c.requires.tree c.args.above.now c.requires.count c.args.path_index
    g.D.Numbered.numbers (g.L.Numbered.numbers c.args.sibling.now) (g.L.Numbered.numbers c.args.digest.now)
    c.loop-step.step (omega arith) _ c.loop-step.invariant.0 _ c.index-above-level.is _
    c.neighbour_of-in-loop-step.ensures _ _ c.at-own.ensures c.at.ensures _ c.are_both-is_own-in-loop-step.ensures _ _
    c.loop-step.invariant.1 c.other_at-difference-in-loop-step.ensures in
    (climbs, differs)

pub returns-clause-differs : goal.returns-clause-differs
returns-clause-differs g c =
    differs-end _ _ _ _ c.requires.tree c.args.above.now c.requires.count c.args.path_index g.D.Numbered.numbers
    (g.L.Numbered.numbers c.args.sibling.now) (g.L.Numbered.numbers c.args.digest.now) c.loop-step.step _ (omega arith)
    (omega arith) c.loop-step.invariant.1

pub returns-clause-top : goal.returns-clause-top
returns-clause-top g c =
    let none : length c.args.above.now - c.loop-step.step ≡ 0 = omega (arith, c.loop-step-test.false) in
    rw none at c.loop-step.invariant.0
