use Rattle.std.proofs.Common.{◌≡◌, ◌-◌, ◌/◌, ◌∙◌, [], get_or, ap, sym, inl, inr, arith}
use Rattle.std.proofs.lemmas.Bool.{cases_lt}
use Rattle.merkle_log.specs.Walk.{index_up}
use Rattle.merkle_log.proofs.Positions.{up-more}
use Rattle.log_file.specs.LogFile.{stored_in}
use Rattle.log_store.proofs.Reading.{level-below, level-low, place-stands, stored-at}
use Rattle.log_store.proofs.edge.read_peaks.Goals as goal
use Rattle.log_store.proofs.edge.read_peaks.Goals.{then-left-eq1+in_ok-digest, else-left-eq1}

pub position_of-requires-clause-below : goal.position_of-requires-clause-below
position_of-requires-clause-below g c =
    (place-stands c.args.size c.levels.level (c.levels.left - 1) c.requires.fits
    (omega (arith, c.levels.invariant.left_is, c.levels-test.true))).below

pub position_of-requires-clause-fits : goal.position_of-requires-clause-fits
position_of-requires-clause-fits g c =
    let at = place-stands c.args.size c.levels.level (c.levels.left - 1) c.requires.fits
    (omega (arith, c.levels.invariant.left_is, c.levels-test.true)) in
    omega (arith, at.within, c.requires.fits)

pub read_digest-requires : goal.read_digest-requires
read_digest-requires g c =
    let at = place-stands c.args.size c.levels.level (c.levels.left - 1) c.requires.fits
    (omega (arith, c.levels.invariant.left_is, c.levels-test.true)) in
    omega (arith, at.within, c.requires.inside, c.position_of.ensures)

pub levels-preserved : goal.levels-preserved
levels-preserved g c =
    let at = c.levels.invariant in
    let seen = g.D.Disk.seen c.args.disk.now in
    let size = c.args.size in
    let stands = place-stands size c.levels.level (c.levels.left - 1) c.requires.fits
    (omega (arith, at.left_is, c.levels-test.true)) in
    let low = level-low c.levels.level size c.requires.fits (omega (arith, at.left_is, c.levels-test.true)) in
    let half = ap (λ n. n / 2) at.left_is ∙ sym (up-more c.levels.level size) in
    elim c.if-left-eq1.branch [
      | then-left-eq1+in_ok-digest w ↦ record {
        left_is = half;
        low = omega arith;
        read = λ obeys inside level place below peak. elim (cases_lt level c.levels.level) [
          | inl under ↦
              rw (w.peaks-is) (w.put_peak.ensures.others level under ∙ at.read obeys inside level place under peak)
          | inr here ↦
              let e : level ≡ c.levels.level = omega arith in
              let p : place ≡ c.levels.left - 1 = omega (arith, peak.1, ap (λ l. index_up l size) e, at.left_is) in
              rw (w.peaks-is, e, p) (w.put_peak.ensures.own
              ∙ w.in_ok-digest.ensures obeys (omega (arith, stands.within, w.position_of.ensures))
              ∙ stored-at size w.position_of.result seen (omega (arith, stands.within, w.position_of.ensures))
              ∙ ap (λ n. get_or (stored_in size seen) n []) w.position_of.ensures)
        ];
      }
      | else-left-eq1 w ↦ record {
        left_is = half;
        low = omega arith;
        read = λ obeys inside level place below peak. elim (cases_lt level c.levels.level) [
          | inl under ↦ rw (w.peaks-is) (at.read obeys inside level place under peak)
          | inr here ↦
              let e : level ≡ c.levels.level = omega arith in
              absurd (omega (arith, peak.0, ap (λ l. index_up l size) e, at.left_is, w.if-left-eq1.false))
        ];
      }
    ]

pub returns : goal.returns
returns g c = λ obeys inside level place peak.
    let none : c.levels.left ≡ 0 = omega (arith, c.levels-test.false) in
    c.levels.invariant.read obeys inside level place (level-below level c.levels.level c.args.size
    (omega (arith, peak.1)) (sym c.levels.invariant.left_is ∙ none)) peak
