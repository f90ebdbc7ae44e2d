use Rattle.std.proofs.Common.{◌≡◌, ◌+◌, ◌*◌, ◌<◌, ◌++◌, ◌∙◌, refl, ap, arith}
use Rattle.ark_trees.specs.Rfc6962.{node_hash}
use Rattle.merkle_log.specs.Kept.{stored_front}
use Rattle.merkle_log.specs.Levels.{parent_in, place_in}
use Rattle.merkle_log.proofs.KeptRows.{front-long}
use Rattle.merkle_log.proofs.Levels.{place-beyond, place-spot, raises-end, raises-first, raises-made, raises-next, room-later}
use Rattle.merkle_log.proofs.kept.growth.levels.raise.Goals as goal

pub places-init : goal.places-init
places-init g c = record {
  same = refl;
  above = omega arith;
  raises = raises-first _ c.args.level c.args.first;
}

pub run_of-parents-requires-clause-room : goal.run_of-parents-requires-clause-room
run_of-parents-requires-clause-room g c =
    rw (c.places.invariant.same) (room-later c.requires.room c.places.place c.places.invariant.above)

pub two_below-requires-clause-room : goal.two_below-requires-clause-room
two_below-requires-clause-room g c =
    rw (c.places.invariant.same) (room-later c.requires.room c.places.place c.places.invariant.above)

pub run-init : goal.run-init
run-init g c =
    let none : c.places.place + 0 ≡ c.places.place = omega arith in
    record { same = c.places.invariant.same; raises = rw (none) c.places.invariant.raises }

pub overflow_add-level : goal.overflow_add-level
overflow_add-level g c =
    let spot = place-spot c.requires.room c.places.place (omega (arith, c.places-test.true)) in
    omega (arith, spot.level_fits)

pub put_at-requires-clause-level : goal.put_at-requires-clause-level
put_at-requires-clause-level g c =
    (place-spot c.requires.room c.places.place (omega (arith, c.places-test.true))).level_fits

pub put_at-requires-clause-below : goal.put_at-requires-clause-below
put_at-requires-clause-below g c =
    (place-spot c.requires.room (c.places.place + c.run.step)
    (omega (arith, c.places-test.true, c.run-test.true, c.min-count.ensures))).below

pub put_at-requires-clause-near : goal.put_at-requires-clause-near
put_at-requires-clause-near g c =
    (place-spot c.requires.room (c.places.place + c.run.step)
    (omega (arith, c.places-test.true, c.run-test.true, c.min-count.ensures))).near

pub put_at-requires-clause-lacks : goal.put_at-requires-clause-lacks
put_at-requires-clause-lacks g c =
    place-beyond c.requires.room (c.places.place + c.run.step) (omega (arith, c.places.invariant.above))

pub put_at-requires-clause-inside : goal.put_at-requires-clause-inside
put_at-requires-clause-inside g c =
    let spot = place-spot c.requires.room (c.places.place + c.run.step)
    (omega (arith, c.places-test.true, c.run-test.true, c.min-count.ensures)) in
    omega (arith, spot.inside, c.run.invariant.same)

pub run-preserved : goal.run-preserved
run-preserved g c =
    let has = c.requires.room in
    let place = c.places.place + c.run.step in
    let spot = place-spot has place (omega (arith, c.places-test.true, c.run-test.true, c.min-count.ensures)) in
    let long = front-long (g.R.Rows.stored c.args.rows.now) c.args.size has.size_is has.whole in
    record {
      same = c.put_at.ensures.same ∙ c.run.invariant.same;
      raises = rw (c.put_at.ensures.written) (raises-next (stored_front (g.R.Rows.stored c.args.rows.now)) c.run.more
          c.run.invariant.raises long
          (place-beyond has place (omega (arith, c.places.invariant.above)))
          (omega (arith, spot.inside, c.run.invariant.same))
          (raises-made c.places.invariant.raises place (c.run_of-parents.ensures c.run.step
          (omega (arith, c.run-test.true, c.min-count.ensures))
          (omega (arith, c.places-test.true, c.run-test.true, c.min-count.ensures)))) (omega arith));
    }

pub overflow_add-level-else-end-place-ge4 : goal.overflow_add-level-else-end-place-ge4
overflow_add-level-else-end-place-ge4 g c =
    let spot = place-spot c.requires.room c.places.place (omega (arith, c.places-test.true)) in
    omega (arith, spot.level_fits)

pub put_at-requires-else-end-place-ge4-clause-level : goal.put_at-requires-else-end-place-ge4-clause-level
put_at-requires-else-end-place-ge4-clause-level g c =
    (place-spot c.requires.room c.places.place (omega (arith, c.places-test.true))).level_fits

pub put_at-requires-else-end-place-ge4-clause-below : goal.put_at-requires-else-end-place-ge4-clause-below
put_at-requires-else-end-place-ge4-clause-below g c =
    (place-spot c.requires.room c.places.place (omega (arith, c.places-test.true))).below

pub put_at-requires-else-end-place-ge4-clause-near : goal.put_at-requires-else-end-place-ge4-clause-near
put_at-requires-else-end-place-ge4-clause-near g c =
    (place-spot c.requires.room c.places.place (omega (arith, c.places-test.true))).near

pub put_at-requires-else-end-place-ge4-clause-lacks : goal.put_at-requires-else-end-place-ge4-clause-lacks
put_at-requires-else-end-place-ge4-clause-lacks g c =
    place-beyond c.requires.room c.places.place c.places.invariant.above

pub put_at-requires-else-end-place-ge4-clause-inside : goal.put_at-requires-else-end-place-ge4-clause-inside
put_at-requires-else-end-place-ge4-clause-inside g c =
    let spot = place-spot c.requires.room c.places.place (omega (arith, c.places-test.true)) in
    omega (arith, spot.inside, c.places.invariant.same)

pub places-preserved : goal.places-preserved
places-preserved g c =
    let has = c.requires.room in
    let place = c.places.place in
    let kept = stored_front (g.R.Rows.stored c.args.rows.now) in
    let spot = place-spot has place (omega (arith, c.places-test.true)) in
    let long = front-long (g.R.Rows.stored c.args.rows.now) c.args.size has.size_is has.whole in
    let none : place + 0 ≡ place = omega arith in
    let below : place + 0 < c.args.end = omega (arith, c.places-test.true) in
    record {
      same = c.put_at-else-end-place-ge4.ensures.same ∙ c.places.invariant.same;
      above = omega (arith, c.places.invariant.above);
      raises = rw (c.put_at-else-end-place-ge4.ensures.written) (raises-next kept c.places.more
          c.places.invariant.raises long (place-beyond has place c.places.invariant.above)
          (omega (arith, spot.inside, c.places.invariant.same))
          (raises-made c.places.invariant.raises place (c.node-own.ensures
          ∙ ap (λ d. node_hash d c.two_below.result.1.now) (c.two_below.ensures.left below)
          ∙ ap (node_hash (place_in (kept ++ c.places.more) c.args.level (2 * (place + 0)))) (c.two_below.ensures.right
          below)
          ∙ ap (parent_in (kept ++ c.places.more) c.args.level) none)) refl);
    }

pub returns-clause-raised : goal.returns-clause-raised
returns-clause-raised g c = raises-end c.places.invariant.raises (omega (arith, c.places-test.false))
