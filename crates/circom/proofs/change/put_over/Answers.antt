use Rattle.std.proofs.Common.{◌/◌, [], get_or, refl, ap, sym, ◌∙◌, arith}
use Rattle.circom.proofs.Changing.{putting-end, putting-next, putting-seat}
use Rattle.merkle_log.proofs.Positions.{up-more}
use Rattle.circom.proofs.change.put_over.Goals as goal

pub offset_bounds-over-level : goal.offset_bounds-over-level
offset_bounds-over-level c =
    let at = putting-seat c.levels.place c.levels.count c.levels.invariant.at c.requires.fits c.requires.whole
    c.levels.invariant.count_is c.levels-test.true in
    omega (arith, at.level_fits)

pub bounds-over-level : goal.bounds-over-level
bounds-over-level c =
    let at = putting-seat c.levels.place c.levels.count c.levels.invariant.at c.requires.fits c.requires.whole
    c.levels.invariant.count_is c.levels-test.true in
    omega (arith, at.level_fits, c.requires.room)

pub position_of-requires-clause-level : goal.position_of-requires-clause-level
position_of-requires-clause-level c =
    let at = putting-seat c.levels.place c.levels.count c.levels.invariant.at c.requires.fits c.requires.whole
    c.levels.invariant.count_is c.levels-test.true in
    at.level_fits

pub position_of-requires-clause-below : goal.position_of-requires-clause-below
position_of-requires-clause-below c =
    let at = putting-seat c.levels.place c.levels.count c.levels.invariant.at c.requires.fits c.requires.whole
    c.levels.invariant.count_is c.levels-test.true in
    at.below

pub position_of-requires-clause-fits : goal.position_of-requires-clause-fits
position_of-requires-clause-fits c =
    let at = putting-seat c.levels.place c.levels.count c.levels.invariant.at c.requires.fits c.requires.whole
    c.levels.invariant.count_is c.levels-test.true in
    at.near

pub offset_bounds-digests-position_of : goal.offset_bounds-digests-position_of
offset_bounds-digests-position_of c =
    let at = putting-seat c.levels.place c.levels.count c.levels.invariant.at c.requires.fits c.requires.whole
    c.levels.invariant.count_is c.levels-test.true in
    omega (arith, at.inside, c.position_of.ensures)

pub bounds-digests-position_of : goal.bounds-digests-position_of
bounds-digests-position_of c =
    let at = putting-seat c.levels.place c.levels.count c.levels.invariant.at c.requires.fits c.requires.whole
    c.levels.invariant.count_is c.levels-test.true in
    omega (arith, at.inside, c.position_of.ensures)

pub overflow_add-level : goal.overflow_add-level
overflow_add-level c =
    let at = putting-seat c.levels.place c.levels.count c.levels.invariant.at c.requires.fits c.requires.whole
    c.levels.invariant.count_is c.levels-test.true in
    omega (arith, at.level_fits)

pub levels-preserved : goal.levels-preserved
levels-preserved c =
    let at = putting-seat c.levels.place c.levels.count c.levels.invariant.at c.requires.fits c.requires.whole
    c.levels.invariant.count_is c.levels-test.true in
    record {
      place_is = ap (λ n. n / 2) c.levels.invariant.place_is ∙ sym (up-more c.levels.level c.args.index);
      count_is = ap (λ n. n / 2) c.levels.invariant.count_is ∙ sym (up-more c.levels.level c.args.size);
      at = rw (c.position_of.ensures) (putting-next c.levels.place (get_or c.args.over.now c.levels.level [])
          c.levels.invariant.at c.levels.invariant.place_is
          (omega (arith, c.levels-test.true, c.levels.invariant.place_is, c.levels.invariant.count_is)) at.inside refl);
    }

pub returns : goal.returns
returns c = putting-end c.levels.invariant.at
    (λ has. omega (arith, c.levels-test.false, c.levels.invariant.place_is, c.levels.invariant.count_is))
