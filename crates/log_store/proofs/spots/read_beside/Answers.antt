use Rattle.std.proofs.Common.{◌≡◌, ◌/◌, ◌∙◌, ap, sym, inl, inr, arith}
use Rattle.std.proofs.lemmas.Bool.{cases_lt}
use Rattle.merkle_log.specs.Binding.{index_beside}
use Rattle.merkle_log.specs.Stored.{position}
use Rattle.merkle_log.specs.Walk.{index_up}
use Rattle.merkle_log.proofs.KeptRows.{up-rises}
use Rattle.merkle_log.proofs.Positions.{up-more}
use Rattle.log_store.proofs.Reading.{level-below, level-low, place-stands, up-less}
use Rattle.log_store.proofs.spots.read_beside.Goals as goal
use Rattle.log_store.proofs.spots.read_beside.Goals.{then-other-left+in_ok-read_spot, else-other-left}

pub sibling_index-other-requires : goal.sibling_index-other-requires
sibling_index-other-requires g c = omega (
  arith,
  c.levels.invariant.own_is,
  c.levels.invariant.left_is,
  up-rises c.levels.level c.args.index c.args.size (omega (arith, c.requires.index)),
  up-less c.levels.level c.args.size,
  c.requires.fits,
)

pub position_of-requires-clause-below : goal.position_of-requires-clause-below
position_of-requires-clause-below g c =
    (place-stands c.args.size c.levels.level c.sibling_index-other.result c.requires.fits
    (omega (arith, c.levels.invariant.left_is, c.if-other-left.true))).below

pub position_of-requires-clause-fits : goal.position_of-requires-clause-fits
position_of-requires-clause-fits g c =
    let at = place-stands c.args.size c.levels.level c.sibling_index-other.result c.requires.fits
    (omega (arith, c.levels.invariant.left_is, c.if-other-left.true)) in
    omega (arith, at.within, c.requires.fits)

pub read_spot-requires : goal.read_spot-requires
read_spot-requires g c =
    let at = place-stands c.args.size c.levels.level c.sibling_index-other.result c.requires.fits
    (omega (arith, c.levels.invariant.left_is, c.if-other-left.true)) in
    omega (arith, at.within, c.requires.inside, c.position_of.ensures)

pub levels-preserved : goal.levels-preserved
levels-preserved g c =
    let at = c.levels.invariant in
    let size = c.args.size in
    let low = level-low c.levels.level size c.requires.fits (omega (arith, at.left_is, c.levels-test.true)) in
    let half = ap (λ n. n / 2) at.left_is ∙ sym (up-more c.levels.level size) in
    let half-own = ap (λ n. n / 2) at.own_is ∙ sym (up-more c.levels.level c.args.index) in
    elim c.if-other-left.branch [
      | then-other-left+in_ok-read_spot w ↦
          let stands = place-stands size c.levels.level c.sibling_index-other.result c.requires.fits
          (omega (arith, at.left_is, w.if-other-left.true)) in
          record {
            left_is = half;
            own_is = half-own;
            low = omega arith;
            own = rw (w.spots-is) (λ obeys inside own. w.in_ok-read_spot.ensures.own obeys size inside
                (omega (arith, w.position_of.ensures, stands.within)) (at.own obeys inside own));
            read = rw (w.spots-is) (λ level place under beside. elim (cases_lt level c.levels.level) [
              | inl less ↦ w.in_ok-read_spot.ensures.more (position level place) (at.read level place less beside)
              | inr here ↦
                  let e : level ≡ c.levels.level = omega arith in
                  let p : place ≡ c.sibling_index-other.result = beside.0
                  ∙ ap (λ l. index_beside (index_up l c.args.index)) e
                  ∙ ap index_beside (sym at.own_is) ∙ sym c.sibling_index-other.ensures in
                  rw (e, p, ← w.position_of.ensures) (w.in_ok-read_spot.ensures.read)
            ]);
            more = rw (w.spots-is) (λ p read. w.in_ok-read_spot.ensures.more p (at.more p read));
          }
      | else-other-left w ↦ record {
        left_is = half;
        own_is = half-own;
        low = omega arith;
        own = rw (w.spots-is) (at.own);
        read = rw (w.spots-is) (λ level place under beside. elim (cases_lt level c.levels.level) [
          | inl less ↦ at.read level place less beside
          | inr here ↦
              let e : level ≡ c.levels.level = omega arith in
              let p : place ≡ c.sibling_index-other.result = beside.0
              ∙ ap (λ l. index_beside (index_up l c.args.index)) e
              ∙ ap index_beside (sym at.own_is) ∙ sym c.sibling_index-other.ensures in
              absurd (omega (arith, beside.1, ap (λ l. index_up l size) e, at.left_is, p, w.if-other-left.false))
        ]);
        more = rw (w.spots-is) (at.more);
      }
    ]

pub returns-clause-read : goal.returns-clause-read
returns-clause-read g c = λ level place beside.
    let none : c.levels.left ≡ 0 = omega (arith, c.levels-test.false) in
    c.levels.invariant.read level place (level-below level c.levels.level c.args.size
    (omega (arith, beside.1)) (sym c.levels.invariant.left_is ∙ none)) beside
