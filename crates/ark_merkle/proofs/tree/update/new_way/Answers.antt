use Rattle.std.proofs.Common.{◌≡◌, ◌∷◌, [], length, refl, arith}
use Rattle.std.proofs.lemmas.List.{length-append, map_push}
use Rattle.ark_base.proofs.Refusals.{passed_on}
use Rattle.ark_merkle.proofs.NewWays.{rows-some, beside-here, way-first, way-first-refused, shift-fits, beside-inside_row, way-more, way-more-refused, way-whole, way-root}
use Rattle.ark_merkle.proofs.tree.update.new_way.Goals as goal

pub bounds-leaves-neighbour_of : goal.bounds-leaves-neighbour_of
bounds-leaves-neighbour_of g c = rw c.neighbour_of.ensures (beside-here _ _ _ _ c.requires.tree _ c.requires.index)

pub offset_bounds-leaves-neighbour_of : goal.offset_bounds-leaves-neighbour_of
offset_bounds-leaves-neighbour_of g c = omega (arith, bounds-leaves-neighbour_of g c)

pub returns-in_err-hash_leaves-clause-root : goal.returns-in_err-hash_leaves-clause-root
returns-in_err-hash_leaves-clause-root g c =
    passed_on _ _ c.from_residual-in_err-hash_leaves.result _ c.from_residual-in_err-hash_leaves.ensures.1
    c.in_err-hash_leaves.ensures (way-first-refused _ _ _ _ c.requires.tree _ c.requires.index _ _
    c.neighbour_of.ensures _ c.index-leaves-neighbour_of.is _ c.is_bit_set-is_right.ensures
    c.in_err-hash_leaves.field-0.0)

pub loop-level-init : goal.loop-level-init
loop-level-init g c =
    let first = way-first _ _ _ _ c.requires.tree _ c.requires.index _ _ c.neighbour_of.ensures _
    c.index-leaves-neighbour_of.is _ c.is_bit_set-is_right.ensures _ c.in_ok-hash_leaves.ensures in
    rw (c.in_ok-push.ensures.items, map_push, c.in_ok-way.ensures.items) (refl, first)

pub overflow_shr-index : goal.overflow_shr-index
overflow_shr-index g c =
    let fits = shift-fits _ _ _ _ c.requires.tree _ c.requires.index c.loop-level.level c.loop-level.auto.level
    (omega arith) c.requires.fits in
    omega arith

pub at-sibling-requires-clause-place : goal.at-sibling-requires-clause-place
at-sibling-requires-clause-place g c = rw c.neighbour_of-in-loop-level.ensures (beside-inside_row _ _ _ _
    c.requires.tree _ c.requires.index c.loop-level.level c.loop-level.auto.level (omega arith))

pub returns-in_err-up-clause-root : goal.returns-in_err-up-clause-root
returns-in_err-up-clause-root g c =
    passed_on _ _ c.from_residual-in_err-up.result _ c.from_residual-in_err-up.ensures.1 c.in_err-up.ensures
    (way-more-refused _ _ _ _ c.requires.tree _ c.requires.index c.loop-level.level c.loop-level.auto.level
    (omega arith) g.D.Numbered.numbers (g.L.Numbered.numbers c.args.digest.now) c.loop-level.way
    c.loop-level.invariant.1 c.loop-level.invariant.0 c.index.result.now c.index.ensures _
    c.neighbour_of-in-loop-level.ensures _ c.at-sibling.ensures _ c.is_bit_set.ensures c.in_err-up.field-0.0)

pub loop-level-preserved : goal.loop-level-preserved
loop-level-preserved g c =
    let long = length-append c.loop-level.way.items (c.in_ok-up.up ∷ []) in
    let more = way-more _ _ _ _ c.requires.tree _ c.requires.index c.loop-level.level c.loop-level.auto.level
    (omega arith) g.D.Numbered.numbers (g.L.Numbered.numbers c.args.digest.now) c.loop-level.way
    c.loop-level.invariant.1 c.loop-level.invariant.0 c.index.result.now c.index.ensures _
    c.neighbour_of-in-loop-level.ensures _ c.at-sibling.ensures _ c.is_bit_set.ensures _ c.in_ok-up.ensures in
    rw (c.in_ok-push-2.ensures.items, map_push) (omega (arith, c.loop-level.invariant.0), more)

pub returns : goal.returns
returns g c =
    let some = rows-some _ _ _ _ c.requires.tree _ c.requires.index in
    let digest = g.L.Numbered.numbers c.args.digest.now in
    let last : length c.loop-level.way.items ≡ length c.args.rows.now =
    omega (arith, c.loop-level.invariant.0, c.loop-level.auto.level-end, c.loop-level-test.false) in
    record {
      way = way-whole _ _ _ _ c.requires.tree _ c.requires.index g.D.Numbered.numbers digest c.loop-level.way
          c.loop-level.invariant.1 last;
      root = way-root _ _ _ _ c.requires.tree _ c.requires.index g.D.Numbered.numbers digest c.loop-level.way
          c.loop-level.invariant.1 last;
    }
