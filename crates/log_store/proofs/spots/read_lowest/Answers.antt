use Rattle.std.proofs.Common.{◌≡◌, ◌-◌, ◌/◌, ◌∙◌, ℕ, ap, sym, inl, inr, arith}
use Rattle.std.proofs.lemmas.Bool.{cases_lt}
use Rattle.merkle_log.specs.Asked.{IsLowest}
use Rattle.merkle_log.specs.Stored.{position}
use Rattle.merkle_log.specs.Walk.{index_up}
use Rattle.merkle_log.proofs.Positions.{count-rises, up-more}
use Rattle.log_store.specs.Spots.{IsRead}
use Rattle.merkle_log.proofs.Givens.{known_if_ok}
use Rattle.log_store.proofs.Reading.{level-low, place-stands}
use Rattle.log_store.proofs.spots.read_lowest.Goals as goal

pub levels-preserved : goal.levels-preserved
levels-preserved g c =
    let at = c.levels.invariant in
    let low = level-low c.levels.level c.args.size c.requires.fits (omega (arith, at.left_is, at.some)) in
    record {
      left_is = ap (λ n. n / 2) at.left_is ∙ sym (up-more c.levels.level c.args.size);
      some = omega (arith, at.some, c.levels-test.true);
      low = omega arith;
      even = λ below under. elim (cases_lt below c.levels.level) [
        | inl less ↦ at.even below less
        | inr here ↦
            let e : below ≡ c.levels.level = omega arith in
            omega (arith, ap (λ l. index_up l c.args.size) e, at.left_is, c.levels-test.true)
      ];
    }

pub position_of-requires-clause-below : goal.position_of-requires-clause-below
position_of-requires-clause-below g c =
    (place-stands c.args.size c.levels.level (c.levels.left - 1) c.requires.fits
    (omega (arith, c.levels.invariant.left_is, c.levels.invariant.some))).below

pub position_of-requires-clause-fits : goal.position_of-requires-clause-fits
position_of-requires-clause-fits g c =
    let at = place-stands c.args.size c.levels.level (c.levels.left - 1) c.requires.fits
    (omega (arith, c.levels.invariant.left_is, c.levels.invariant.some)) in
    omega (arith, at.within, c.requires.fits)

pub read_spot-requires : goal.read_spot-requires
read_spot-requires g c =
    let at = place-stands c.args.size c.levels.level (c.levels.left - 1) c.requires.fits
    (omega (arith, c.levels.invariant.left_is, c.levels.invariant.some)) in
    omega (arith, at.within, c.requires.inside, c.position_of.ensures)

pub returns-clause-own : goal.returns-clause-own
returns-clause-own g c = λ obeys all le inside own.
    let at = place-stands c.args.size c.levels.level (c.levels.left - 1) c.requires.fits
    (omega (arith, c.levels.invariant.left_is, c.levels.invariant.some)) in
    c.read_spot.ensures.own obeys all inside
    (omega (arith, c.position_of.ensures, at.within, count-rises c.args.size all le)) own

pub returns-clause-read : goal.returns-clause-read
returns-clause-read g c = known_if_ok c.read_spot.result (λ read level place lowest. by_level level place lowest read)
    c.read_spot.ensures.read
  where
    by_level : (level place : ℕ) → IsLowest c.args.size level place
        → IsRead c.read_spot.new.spots.items c.position_of.result
        → IsRead c.read_spot.new.spots.items (position level place)
    by_level level place lowest read = elim (cases_lt level c.levels.level) [
      | inl less ↦ absurd (omega (arith, lowest.0.0, c.levels.invariant.even level less))
      | inr ge ↦ elim (cases_lt c.levels.level level) [
        | inl above ↦ absurd (omega (
          arith,
          lowest.1 c.levels.level above,
          c.levels.invariant.left_is,
          c.levels-test.false,
        ))
        | inr le ↦
            let e : level ≡ c.levels.level = omega arith in
            let p : place ≡ c.levels.left - 1 =
            omega (arith, lowest.0.1, ap (λ l. index_up l c.args.size) e, c.levels.invariant.left_is) in
            rw (e, p, ← c.position_of.ensures) read
      ]
    ]
