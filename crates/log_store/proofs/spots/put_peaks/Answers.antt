use Rattle.std.proofs.Common.{[], get_or, ◌≡◌, ◌-◌, ◌/◌, ◌∙◌, ap, sym, inl, inr, arith}
use Rattle.std.proofs.lemmas.Bool.{cases_lt}
use Rattle.merkle_log.specs.Stored.{position}
use Rattle.merkle_log.specs.Walk.{index_up}
use Rattle.merkle_log.proofs.Positions.{up-more}
use Rattle.log_store.proofs.Reading.{level-below, level-low, place-stands}
use Rattle.log_store.proofs.spots.put_peaks.Goals as goal
use Rattle.log_store.proofs.spots.put_peaks.Goals.{then-left-eq1+in_ok-put_spot, else-left-eq1}

pub position_of-requires-clause-below : goal.position_of-requires-clause-below
position_of-requires-clause-below g c =
    (place-stands c.args.size c.levels.level (c.levels.left - 1) c.requires.fits
    (omega (arith, c.levels.invariant.left_is, c.levels-test.true))).below

pub position_of-requires-clause-fits : goal.position_of-requires-clause-fits
position_of-requires-clause-fits g c =
    let at = place-stands c.args.size c.levels.level (c.levels.left - 1) c.requires.fits
    (omega (arith, c.levels.invariant.left_is, c.levels-test.true)) in
    omega (arith, at.within, c.requires.fits)

pub levels-preserved : goal.levels-preserved
levels-preserved g c =
    let at = c.levels.invariant in
    let size = c.args.size in
    let stands = place-stands size c.levels.level (c.levels.left - 1) c.requires.fits
    (omega (arith, at.left_is, c.levels-test.true)) in
    let low = level-low c.levels.level size c.requires.fits (omega (arith, at.left_is, c.levels-test.true)) in
    let half = ap (λ n. n / 2) at.left_is ∙ sym (up-more c.levels.level size) in
    elim c.if-left-eq1.branch [
      | then-left-eq1+in_ok-put_spot w ↦
          record {
            left_is = half;
            low = omega arith;
            own = rw (w.spots-is) (λ digests peaks own. w.in_ok-put_spot.ensures.own digests
                (peaks c.levels.level (c.levels.left - 1)
                (omega (arith, at.left_is, w.if-left-eq1.true), omega (arith, at.left_is, c.levels-test.true))
                ∙ ap (λ n. get_or digests n []) (sym w.position_of.ensures)) (at.own digests peaks own));
            read = rw (w.spots-is) (λ level place under peak. elim (cases_lt level c.levels.level) [
              | inl less ↦ w.in_ok-put_spot.ensures.more (position level place) (at.read level place less peak)
              | inr here ↦
                  let e : level ≡ c.levels.level = omega arith in
                  let p : place ≡ c.levels.left - 1 =
                  omega (arith, peak.1, ap (λ l. index_up l size) e, at.left_is) in
                  rw (e, p, ← w.position_of.ensures) (w.in_ok-put_spot.ensures.read)
            ]);
            more = rw (w.spots-is) (λ p read. w.in_ok-put_spot.ensures.more p (at.more p read));
          }
      | else-left-eq1 w ↦ record {
        left_is = half;
        low = omega arith;
        own = rw (w.spots-is) (at.own);
        read = rw (w.spots-is) (λ level place under peak. elim (cases_lt level c.levels.level) [
          | inl less ↦ at.read level place less peak
          | inr here ↦
              let e : level ≡ c.levels.level = omega arith in
              absurd (omega (arith, peak.0, ap (λ l. index_up l size) e, at.left_is, w.if-left-eq1.false))
        ]);
        more = rw (w.spots-is) (at.more);
      }
    ]

pub returns-clause-read : goal.returns-clause-read
returns-clause-read g c = λ level place peak.
    let none : c.levels.left ≡ 0 = omega (arith, c.levels-test.false) in
    c.levels.invariant.read level place (level-below level c.levels.level c.args.size
    (omega (arith, peak.1)) (sym c.levels.invariant.left_is ∙ none)) peak
