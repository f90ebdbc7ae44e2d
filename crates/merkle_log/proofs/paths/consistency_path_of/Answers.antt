use Rattle.std.proofs.Common.{◌≡◌, ◌+◌, ◌-◌, [], get_or, refl, sym, ◌∙◌, subst, arith}
use Rattle.ark_base.specs.declared.error.Error.{Error}
use Rattle.ark_base.specs.Laws.Steps.{done_injective}
use Rattle.merkle_log.specs.Asked.{Holding, IsBeside, IsPeak, own_count}
use Rattle.merkle_log.specs.Stored.{row_at}
use Rattle.merkle_log.proofs.Asking.{beside-up, lowering-end, lowering-first, lowering-next, peaks-up}
use Rattle.merkle_log.proofs.Backs.{low-next, tallying-first, tallying-next}
use Rattle.merkle_log.proofs.Givens.{given_on, known_if_ok}
use Rattle.merkle_log.proofs.KeptRows.{has-up}
use Rattle.merkle_log.proofs.Lengths.{leads-odd}
use Rattle.merkle_log.proofs.Rooms.{leads-room, leads-some, leads-start}
use Rattle.merkle_log.proofs.Seeding.{seeding-first, seeding-next, seeding-refused, seeding-even}
use Rattle.merkle_log.proofs.paths.consistency_path_of.Goals as goal

pub complete-init : goal.complete-init
complete-init g c =
    let rows = row_at (g.R.Rows.stored c.args.rows.now) in
    let one : c.args.size ≡ c.args.size - 1 + 1 = omega (arith, c.requires.inside) in
    record {
      count = omega arith;
      inside = omega (arith, c.requires.inside);
      under = omega (arith, c.requires.some, c.requires.inside);
      within = omega (arith, c.requires.within);
      has = omega (arith, c.requires.inside, c.requires.within);
      peaks = subst (λ n. Holding (g.R.Rows.Holds c.args.rows.now) 0 (IsPeak n)) one c.requires.peaks;
      beside = subst (λ n. Holding (g.R.Rows.Holds c.args.rows.now) 0 (IsBeside (c.args.old_size - 1) n)) one
          c.requires.beside;
      leads = leads-start c.args.old_size c.args.size _ c.requires.some c.requires.inside c.requires.room;
      lowest = lowering-first c.args.old_size c.requires.some;
      at = λ stored empty. seeding-first empty stored c.args.old_size c.args.size (get_or (rows 0) (c.args.size - 1)
          []) c.requires.some c.requires.inside c.requires.within refl;
      same = refl;
      low = omega (arith, c.requires.none);
      tally = tallying-first c.args.old_size c.args.size c.requires.none c.requires.some c.requires.inside;
    }

pub raise-requires-clause-last : goal.raise-requires-clause-last
raise-requires-clause-last g c = c.complete.invariant.has

pub raise-requires-clause-held : goal.raise-requires-clause-held
raise-requires-clause-held g c = c.complete.invariant.peaks

pub raise-requires-clause-counted : goal.raise-requires-clause-counted
raise-requires-clause-counted g c =
    omega (arith, c.complete.invariant.low, c.complete.invariant.count, c.complete.invariant.under)

pub returns-in_err-last-clause-path : goal.returns-in_err-last-clause-path
returns-in_err-last-clause-path g c = λ stored empty.
    given_on _ _ _ c.from_residual.result c.in_err-last.field-0.0 c.from_residual.ensures.1
    (rw (c.complete.invariant.same) at (c.in_err-last.ensures.raised (rw (c.complete.invariant.same) stored)))
    (λ refused. let up = seeding-next empty stored (c.complete.invariant.at stored empty) (omega arith)
    (c.complete.level + 1) refl _ refused in seeding-refused empty stored up.levels up.high up)

pub overflow_add-level : goal.overflow_add-level
overflow_add-level g c =
    omega (arith, c.complete.invariant.count, c.complete.invariant.under)

pub complete-preserved : goal.complete-preserved
complete-preserved g c =
    let made = c.in_ok-last.ensures in
    let at = c.complete.invariant in
    record {
      count = omega (arith, at.count, at.under);
      inside = omega (arith, at.inside);
      under = omega (arith, at.under);
      within = has-up (g.R.Rows.stored c.args.rows.now) c.complete.level c.complete.last_index at.within;
      has = made.has;
      peaks = peaks-up (g.R.Rows.Holds c.args.rows.now) c.complete.level (own_count c.complete.last_index
          c.complete.last) _
          at.peaks made.own;
      beside = beside-up (g.R.Rows.Holds c.args.rows.now) c.complete.level c.complete.index
          (own_count c.complete.last_index c.complete.last) _ at.beside made.own;
      leads = leads-odd at.leads (omega arith);
      lowest = lowering-next at.lowest (omega arith) refl;
      at = λ stored empty. seeding-next empty stored (at.at stored empty) (omega arith)
          (c.complete.level + 1) refl _ (rw (at.same) at (made.raised (rw (at.same) stored)));
      same = made.same ∙ at.same;
      low = low-next c.complete.index c.complete.last_index c.complete.last _ at.low
          (λ less. made.counts) (λ near. absurd (omega arith));
      tally = tallying-next at.tally (omega arith) _ _ (λ less. made.counts) (λ near. absurd (omega arith));
    }

pub put_seed-requires-clause-inside : goal.put_seed-requires-clause-inside
put_seed-requires-clause-inside g c = omega (arith, c.complete.invariant.under, c.complete.invariant.within)

pub put_seed-requires-clause-held : goal.put_seed-requires-clause-held
put_seed-requires-clause-held g c =
    let zero : 0 + c.complete.level ≡ c.complete.level = omega arith in
    subst (λ level. g.R.Rows.Holds c.args.rows.now level c.complete.index) zero
    (c.requires.lowest c.complete.level c.complete.index (lowering-end c.complete.invariant.lowest (omega arith)))

pub put_seed-requires-clause-room : goal.put_seed-requires-clause-room
put_seed-requires-clause-room g c = leads-some c.complete.invariant.leads (omega arith)

pub path_from-requires-clause-inside : goal.path_from-requires-clause-inside
path_from-requires-clause-inside g c = c.complete.invariant.inside

pub path_from-requires-clause-within : goal.path_from-requires-clause-within
path_from-requires-clause-within g c = c.complete.invariant.within

pub path_from-requires-clause-last : goal.path_from-requires-clause-last
path_from-requires-clause-last g c = c.complete.invariant.has

pub path_from-requires-clause-peaks : goal.path_from-requires-clause-peaks
path_from-requires-clause-peaks g c = c.complete.invariant.peaks

pub path_from-requires-clause-beside : goal.path_from-requires-clause-beside
path_from-requires-clause-beside g c = c.complete.invariant.beside

pub path_from-requires-clause-counted : goal.path_from-requires-clause-counted
path_from-requires-clause-counted g c = c.complete.invariant.low

pub path_from-requires-clause-room : goal.path_from-requires-clause-room
path_from-requires-clause-room g c =
    let room = leads-room c.complete.invariant.leads (omega arith) _ c.in_ok-at.ensures.next in
    λ k high. room k high ∙ sym c.in_ok-at.ensures.long

pub returns-clause-path : goal.returns-clause-path
returns-clause-path g c = λ stored empty.
    let seeded = seeding-even empty stored (c.complete.invariant.at stored empty) (omega arith) in
    rw (seeded.is, done_injective {E = Error} _ _ c.in_ok-at.ensures.put)
    (rw (c.complete.invariant.same) at (c.path_from.ensures.path (rw (c.complete.invariant.same) stored) empty
    seeded.levels seeded.high))

pub returns-clause-counts : goal.returns-clause-counts
returns-clause-counts g c =
    let tally = c.complete.invariant.tally in
    known_if_ok c.path_from.result (λ counts. counts tally.levels tally.high ∙ tally.is) c.path_from.ensures.counts
