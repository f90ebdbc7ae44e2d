use Rattle.std.proofs.Common.{◌≡◌, ◌+◌, ◌-◌, ◌<◌, [], get_or, refl, ◌∙◌, subst, arith}
use Rattle.merkle_log.specs.Asked.{Holding, IsPeak, own_count}
use Rattle.merkle_log.specs.Stored.{row_at}
use Rattle.merkle_log.proofs.Asking.{own-most, peak-here, peaks-up}
use Rattle.merkle_log.proofs.Givens.{given_on, known_anyway}
use Rattle.merkle_log.proofs.Lasts.{last-first, last-next, last-refused, last-end}
use Rattle.merkle_log.proofs.Tallied.{left-first, left-room, left-end}
use Rattle.merkle_log.proofs.rows.root_of.Goals as goal

pub levels-init : goal.levels-init
levels-init g c =
    let rows = row_at (g.R.Rows.stored c.args.rows.now) in
    let some : 0 < c.args.size = omega (arith, c.requires.some) in
    let one : c.args.size ≡ c.args.size - 1 + 1 = omega (arith, c.requires.some) in
    record {
      count = omega arith;
      has = omega (arith, c.requires.inside);
      held = subst (λ n. Holding (g.R.Rows.Holds c.args.rows.now) 0 (IsPeak n)) one c.requires.held;
      at = λ stored empty. last-first _ rows empty c.args.size (get_or (rows 0) (c.args.size - 1) []) some
          c.requires.inside refl;
      same = refl;
      tally = left-first _ c.args.size c.requires.none some;
    }

pub raise-requires-clause-last : goal.raise-requires-clause-last
raise-requires-clause-last g c = c.levels.invariant.has

pub raise-requires-clause-held : goal.raise-requires-clause-held
raise-requires-clause-held g c = c.levels.invariant.held

pub raise-requires-clause-counted : goal.raise-requires-clause-counted
raise-requires-clause-counted g c = left-room _ _ _ (omega arith) c.levels.invariant.tally

pub returns-in_err-last-clause-root : goal.returns-in_err-last-clause-root
returns-in_err-last-clause-root g c = λ stored empty.
    given_on _ _ _ c.from_residual.result c.in_err-last.field-0.0 c.from_residual.ensures.1
    (rw (c.levels.invariant.same) at (c.in_err-last.ensures.raised (rw (c.levels.invariant.same) stored)))
    (λ refused. let up = last-next stored (c.levels.invariant.at stored empty) c.levels-test.true
    (c.levels.level + 1) refl _ refused in last-refused stored up.levels up.high up)

pub levels-preserved : goal.levels-preserved
levels-preserved g c =
    let made = c.in_ok-last.ensures in
    record {
      count = omega (arith, c.levels.invariant.count);
      has = made.has;
      held = peaks-up (g.R.Rows.Holds c.args.rows.now) c.levels.level (own_count c.levels.last_index c.levels.last) _
          c.levels.invariant.held made.own;
      at = λ stored empty. last-next stored (c.levels.invariant.at stored empty) c.levels-test.true
          (c.levels.level + 1) refl _ (rw (c.levels.invariant.same) at (made.raised
          (rw (c.levels.invariant.same) stored)));
      same = made.same ∙ c.levels.invariant.same;
      tally = made.counts c.levels.last_index refl ∙ c.levels.invariant.tally;
    }

pub last_of-requires-clause-last : goal.last_of-requires-clause-last
last_of-requires-clause-last g c = c.levels.invariant.has

pub last_of-requires-clause-held : goal.last_of-requires-clause-held
last_of-requires-clause-held g c = λ own. peak-here (g.R.Rows.Holds c.args.rows.now) c.levels.level
    (own_count c.levels.last_index c.levels.last) c.levels.last_index c.levels.invariant.held
    (omega (arith, own-most c.levels.last_index c.levels.last)) (omega (
      arith,
      own-most c.levels.last_index
          c.levels.last,
    ))

pub returns-clause-root : goal.returns-clause-root
returns-clause-root g c = λ stored empty. rw (
  last-end stored (c.levels.invariant.at stored empty) (omega arith),
  ← c.last_of.ensures,
) c.copied.ensures

pub returns-clause-counts : goal.returns-clause-counts
returns-clause-counts g c = known_anyway c.copied.result
    (left-end _ _ _ c.levels.last (omega arith) c.levels.invariant.tally)
