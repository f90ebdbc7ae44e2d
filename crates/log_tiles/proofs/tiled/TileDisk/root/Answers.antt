use Rattle.std.proofs.Common.{◌≡◌, ◌-◌, ◌/◌, ◌<◌, ◌^◌, [], ap, sym, ◌∙◌, inl, inr, arith}
use Rattle.std.proofs.lemmas.Bool.{cases_lt}
use Rattle.sha2.specs.Sha256.{sha256}
use Rattle.merkle_log.specs.Walk.{index_up}
use Rattle.merkle_log.proofs.Positions.{up-more}
use Rattle.log_store.proofs.Reading.{level-below, level-low}
use Rattle.log_tiles.proofs.Leading.{leads-end, leads-even, leads-first, leads-none, leads-odd}
use Rattle.log_tiles.proofs.TileRows.{peak-of}
use Rattle.log_tiles.proofs.tiled.TileDisk.root.Goals as goal
use Rattle.log_tiles.proofs.tiled.TileDisk.root.Goals.{then-left-eq1+in_ok-peak, else-left-eq1}

pub levels-init : goal.levels-init
levels-init g c = record {
  left_is = c.size-left.ensures.size;
  low = omega arith;
  whole = λ obeys level place below. absurd (omega arith);
  leads = λ obeys leaves are long.
      leads-first leaves (sha256 []) c.size-left.result (long ∙ sym c.size-left.ensures.size);
}

pub levels-preserved : goal.levels-preserved
levels-preserved g c =
    let at = c.levels.invariant in
    let has = g.T.Tiles.has c.args.self.now.tiles in
    let size = c.args.self.now.size in
    let half = ap (λ n. n / 2) at.left_is ∙ sym (up-more c.levels.level size) in
    let fits : size < 2 ^ 63 = omega (arith, c.size-left.ensures.size, c.size-left.ensures.fits) in
    let low = level-low c.levels.level size fits (omega (arith, at.left_is, c.levels-test.true)) in
    elim c.if-left-eq1.branch [
      | then-left-eq1+in_ok-peak w ↦
          let inside : c.levels.left - 1 < index_up c.levels.level size = omega (arith, at.left_is, c.levels-test.true)
          in
          record {
            left_is = half;
            low = omega arith;
            whole = λ obeys level place below peak. elim (cases_lt level c.levels.level) [
              | inl under ↦ at.whole obeys level place under peak
              | inr here ↦
                  let e : level ≡ c.levels.level = omega arith in
                  let p : place ≡ c.levels.left - 1 = omega
                  (arith, peak.1, ap (λ l. index_up l size) e, at.left_is) in
                  rw (e, p) (w.in_ok-peak.ensures.whole obeys inside)
            ];
            leads = λ obeys leaves are long.
                let own = w.in_ok-peak.ensures.digest obeys inside
                ∙ peak-of has size leaves are c.levels.level (c.levels.left - 1) in
                rw (w.last-is, w.joined_peak.ensures, own) (leads-odd leaves (sha256 []) c.levels.level c.levels.left
                c.levels.last (at.left_is ∙ ap (index_up c.levels.level) (sym long)) w.if-left-eq1.true
                (at.leads obeys leaves are long));
          }
      | else-left-eq1 w ↦ record {
        left_is = half;
        low = omega arith;
        whole = λ obeys level place below peak. elim (cases_lt level c.levels.level) [
          | inl under ↦ at.whole obeys level place under peak
          | inr here ↦
              let e : level ≡ c.levels.level = omega arith in
              absurd (omega (arith, peak.0, ap (λ l. index_up l size) e, at.left_is, w.if-left-eq1.false))
        ];
        leads = λ obeys leaves are long.
            rw (w.last-is) (leads-even leaves (sha256 []) c.levels.level c.levels.left c.levels.last
            (at.left_is ∙ ap (index_up c.levels.level) (sym long)) (omega (arith, w.if-left-eq1.false))
            (at.leads obeys leaves are long));
      }
    ]

pub returns-in-Some-clause-whole : goal.returns-in-Some-clause-whole
returns-in-Some-clause-whole g c = λ obeys level place peak.
    let none : c.levels.left ≡ 0 = omega (arith, c.levels-test.false) in
    c.levels.invariant.whole obeys level place (level-below level c.levels.level c.args.self.now.size
    (omega (arith, peak.1)) (sym c.levels.invariant.left_is ∙ none)) peak

pub returns-in-None-clause-whole : goal.returns-in-None-clause-whole
returns-in-None-clause-whole g c = λ obeys level place peak.
    let none : c.levels.left ≡ 0 = omega (arith, c.levels-test.false) in
    c.levels.invariant.whole obeys level place (level-below level c.levels.level c.args.self.now.size
    (omega (arith, peak.1)) (sym c.levels.invariant.left_is ∙ none)) peak

pub returns-in-Some-clause-root : goal.returns-in-Some-clause-root
returns-in-Some-clause-root g c = λ obeys leaves are long. leads-end leaves (sha256 []) c.levels.level c.levels.left
    c.in-Some.root (omega (arith, c.levels-test.false)) (rw (c.in-Some.is) at (c.levels.invariant.leads obeys leaves are
    long))

pub returns-in-None-clause-root : goal.returns-in-None-clause-root
returns-in-None-clause-root g c = λ obeys leaves are long.
    rw (c.digest.ensures, c.as_slice.ensures) (leads-none leaves (sha256 []) c.levels.level c.levels.left (omega
    (arith, c.levels-test.false)) (rw (c.in-None.is) at (c.levels.invariant.leads obeys leaves are long)))
