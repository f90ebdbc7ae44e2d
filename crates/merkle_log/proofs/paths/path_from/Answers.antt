use Rattle.std.proofs.Common.{◌+◌, ◌/◌, Ok, ap, refl, subst, sym, ◌∙◌, arith}
use Rattle.ark_base.specs.declared.error.Error.{Error}
use Rattle.ark_base.specs.Laws.Steps.{done_injective}
use Rattle.merkle_log.specs.Asked.{own_count}
use Rattle.merkle_log.proofs.Asking.{beside-next, peaks-up}
use Rattle.merkle_log.proofs.Backs.{low-next, tallying-next, tallying-end}
use Rattle.merkle_log.proofs.Givens.{given_on}
use Rattle.merkle_log.proofs.Going.{going-step, going-refused, going-end}
use Rattle.merkle_log.proofs.KeptRows.{has-up}
use Rattle.merkle_log.proofs.Lengths.{Counts, counts-end}
use Rattle.merkle_log.proofs.Rooms.{counts-first, counts-next, counts-room, take-path}
use Rattle.merkle_log.proofs.paths.path_from.Goals as goal

pub levels-init : goal.levels-init
levels-init g c = record {
  count = omega arith;
  inside = c.requires.inside;
  within = c.requires.within;
  has = λ less. c.requires.last;
  peaks = λ less. c.requires.peaks;
  beside = c.requires.beside;
  going = λ stored empty k high. record {
    x = Ok _;
    known = λ under. refl;
    goes = record {
      levels = k;
      high = high;
      within = c.requires.within;
      inside = c.requires.inside;
      is = refl;
    };
  };
  room = counts-first c.requires.inside c.requires.room;
  same = refl;
  low = c.requires.counted;
  tally = λ k high. record { levels = k; high = high; inside = c.requires.inside; is = refl };
}

pub put_beside-requires-clause-inside : goal.put_beside-requires-clause-inside
put_beside-requires-clause-inside g c = c.levels.invariant.inside

pub put_beside-requires-clause-within : goal.put_beside-requires-clause-within
put_beside-requires-clause-within g c = c.levels.invariant.within

pub put_beside-requires-clause-last : goal.put_beside-requires-clause-last
put_beside-requires-clause-last g c = c.levels.invariant.has

pub put_beside-requires-clause-held : goal.put_beside-requires-clause-held
put_beside-requires-clause-held g c = c.levels.invariant.beside

pub put_beside-requires-clause-room : goal.put_beside-requires-clause-room
put_beside-requires-clause-room g c = λ beside. counts-room c.levels.invariant.room c.levels-test.true beside

pub raise_needed-requires-clause-last : goal.raise_needed-requires-clause-last
raise_needed-requires-clause-last g c = c.levels.invariant.has

pub raise_needed-requires-clause-held : goal.raise_needed-requires-clause-held
raise_needed-requires-clause-held g c = c.levels.invariant.peaks

pub raise_needed-requires-clause-counted : goal.raise_needed-requires-clause-counted
raise_needed-requires-clause-counted g c =
    omega (arith, c.levels.invariant.low, c.levels.invariant.count)

pub returns-in_err-last-clause-path : goal.returns-in_err-last-clause-path
returns-in_err-last-clause-path g c = λ stored empty k high.
    given_on _ _ _ c.from_residual-in_err-last.result c.in_err-last.field-0.0 c.from_residual-in_err-last.ensures.1
    (rw (c.levels.invariant.same) at (c.in_err-last.ensures.raised (rw (c.levels.invariant.same) stored)))
    (λ refused. going-refused empty stored (c.levels.invariant.going stored empty k high) c.levels-test.true _
    refused.0 refused.1)

pub levels-preserved : goal.levels-preserved
levels-preserved g c =
    let made = c.in_ok-last.ensures in
    let at = c.levels.invariant in
    record {
      count = omega (arith, at.count);
      inside = omega (arith, at.inside);
      within = has-up (g.R.Rows.stored c.args.rows.now) c.levels.level c.levels.last_index at.within;
      has = made.has;
      peaks = λ less. peaks-up (g.R.Rows.Holds c.args.rows.now) c.levels.level (own_count c.levels.last_index
          c.levels.last) _
          (at.peaks (omega arith)) (made.own less);
      beside = beside-next (g.R.Rows.Holds c.args.rows.now) c.levels.level c.levels.index c.levels.last_index
          c.levels.last
          c.in_ok-last.last at.inside at.beside made.own made.dropped;
      going = λ stored empty k high. going-step empty stored (at.going stored empty k high) c.levels-test.true
          (c.levels.level + 1) refl _ (rw (at.same) at (made.raised (rw (at.same) stored))) _
          (done_injective {E = Error} _ _ c.in_ok-at.ensures.put);
      room = subst (Counts (c.levels.index / 2) (c.levels.last_index / 2) c.in_ok-at.at) (sym c.in_ok-at.ensures.long)
          (counts-next at.room c.levels-test.true c.in_ok-at.at c.in_ok-at.ensures.next);
      same = made.same ∙ at.same;
      low = low-next c.levels.index c.levels.last_index c.levels.last _ at.low made.counts made.none;
      tally = λ k high. tallying-next (at.tally k high) c.levels-test.true _ _ made.counts made.none;
    }

pub returns-clause-path : goal.returns-clause-path
returns-clause-path g c = λ stored empty k high.
    going-end empty stored (c.levels.invariant.going stored empty k high) (omega arith)
    ∙ ap Ok (take-path _ _ _ (counts-end c.levels.invariant.room (omega arith)))

pub returns-clause-counts : goal.returns-clause-counts
returns-clause-counts g c = λ k high. tallying-end (c.levels.invariant.tally k high) (omega arith)
