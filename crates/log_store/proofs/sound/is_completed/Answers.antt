use Rattle.std.proofs.Common.{◌≡◌, ◌≤◌, ◌+◌, ◌*◌, ◌/◌, ◌%◌, length, take, drop, ap, ◌∙◌, inl, inr, arith}
use Rattle.std.proofs.lemmas.Bool.{cases_lt}
use Rattle.log_file.specs.LogFile.{file_end}
use Rattle.log_store.specs.Sound.{placed, IsAhead}
use Rattle.merkle_log.proofs.Hashed.{other-says, same-says}
use Rattle.log_store.proofs.Sounding.{climb, climbs, compares, entry-damaged, entry-hashed, other-stands, own-stands, up-stands, Compares}
use Rattle.log_store.proofs.sound.is_completed.Goals.{After-ne}
use Rattle.log_store.proofs.sound.is_completed.Goals as goal

pub digest_in-requires-clause-near : goal.digest_in-requires-clause-near
digest_in-requires-clause-near g c =
    let at = own-stands c.args.index 0 c.args.index (climbs c.args.index) c.requires.fits in
    omega (arith, at.within, c.position_of.ensures, c.requires.near)

pub odd-init : goal.odd-init
odd-init g c = record {
  at = climbs c.args.index;
  own = λ obeys ahead inside.
      let at = own-stands c.args.index 0 c.args.index (climbs c.args.index) c.requires.fits in
      c.in_ok-own.ensures obeys ahead (omega (arith, at.within, c.position_of.ensures, inside))
      ∙ ap (λ p. take 32 (drop (96 + 32 * p) (g.D.Disk.seen c.args.disk.now))) c.position_of.ensures;
  hashed = λ obeys ahead inside k below. absurd (omega arith);
}

pub position_of-requires-in-odd-clause-level : goal.position_of-requires-in-odd-clause-level
position_of-requires-in-odd-clause-level g c =
    (other-stands c.args.index c.odd.level c.odd.left c.odd.invariant.at c.odd-test.true c.requires.fits).low

pub position_of-requires-in-odd-clause-below : goal.position_of-requires-in-odd-clause-below
position_of-requires-in-odd-clause-below g c =
    (other-stands c.args.index c.odd.level c.odd.left c.odd.invariant.at c.odd-test.true c.requires.fits).below

pub position_of-requires-in-odd-clause-fits : goal.position_of-requires-in-odd-clause-fits
position_of-requires-in-odd-clause-fits g c =
    let at = other-stands c.args.index c.odd.level c.odd.left c.odd.invariant.at c.odd-test.true c.requires.fits in
    omega (arith, at.within, c.requires.near)

pub digest_in-requires-in-odd-clause-near : goal.digest_in-requires-in-odd-clause-near
digest_in-requires-in-odd-clause-near g c =
    let at = other-stands c.args.index c.odd.level c.odd.left c.odd.invariant.at c.odd-test.true c.requires.fits in
    omega (arith, at.within, c.position_of-in-odd.ensures, c.requires.near)

pub overflow_add-level : goal.overflow_add-level
overflow_add-level g c =
    let at = other-stands c.args.index c.odd.level c.odd.left c.odd.invariant.at c.odd-test.true c.requires.fits in
    omega (arith, at.low)

pub position_of-requires-in-odd-2-clause-level : goal.position_of-requires-in-odd-2-clause-level
position_of-requires-in-odd-2-clause-level g c =
    (up-stands c.args.index c.odd.level c.odd.left c.odd.invariant.at c.odd-test.true c.requires.fits).low

pub position_of-requires-in-odd-2-clause-below : goal.position_of-requires-in-odd-2-clause-below
position_of-requires-in-odd-2-clause-below g c =
    (up-stands c.args.index c.odd.level c.odd.left c.odd.invariant.at c.odd-test.true c.requires.fits).below

pub position_of-requires-in-odd-2-clause-fits : goal.position_of-requires-in-odd-2-clause-fits
position_of-requires-in-odd-2-clause-fits g c =
    let at = up-stands c.args.index c.odd.level c.odd.left c.odd.invariant.at c.odd-test.true c.requires.fits in
    omega (arith, at.within, c.requires.near)

pub digest_in-requires-in-odd-2-clause-near : goal.digest_in-requires-in-odd-2-clause-near
digest_in-requires-in-odd-2-clause-near g c =
    let at = up-stands c.args.index c.odd.level c.odd.left c.odd.invariant.at c.odd-test.true c.requires.fits in
    omega (arith, at.within, c.position_of-in-odd-2.ensures, c.requires.near)

-- what is read above, and what is compared with it
compared : (g : _) (c : After-ne g) → g.D.Disk.Obeys c.args.disk.now
    → IsAhead c.args.ahead.now.start c.args.ahead.now.count c.args.ahead.now.bytes (g.D.Disk.seen c.args.disk.now)
    → file_end (c.args.index + 1) ≤ length (g.D.Disk.seen c.args.disk.now)
    → (c.in_ok-above.above ≡ placed (g.D.Disk.seen c.args.disk.now) (c.odd.level + 1) (c.odd.left / 2))
    × Compares (g.D.Disk.seen c.args.disk.now) c.args.index c.odd.level c.node.result c.in_ok-above.above
compared g c obeys ahead inside =
    let seen = g.D.Disk.seen c.args.disk.now in
    let index = c.args.index in
    let level = c.odd.level in
    let left = c.odd.left in
    let at = c.odd.invariant.at in
    let one = other-stands index level left at c.odd-test.true c.requires.fits in
    let two = up-stands index level left at c.odd-test.true c.requires.fits in
    let other = c.in_ok-other.ensures obeys ahead (omega (arith, one.within, c.position_of-in-odd.ensures, inside))
    ∙ ap (λ p. take 32 (drop (96 + 32 * p) seen)) c.position_of-in-odd.ensures in
    let above = c.in_ok-above.ensures obeys ahead (omega (arith, two.within, c.position_of-in-odd-2.ensures, inside))
    ∙ ap (λ p. take 32 (drop (96 + 32 * p) seen)) c.position_of-in-odd-2.ensures in (
      above,
      rw (c.node.ensures) (compares seen index level left c.in_ok-other.other c.odd.own c.in_ok-above.above at
          c.odd-test.true other (c.odd.invariant.own obeys ahead inside) above),
    )

pub returns-then-ne-clause-damaged : goal.returns-then-ne-clause-damaged
returns-then-ne-clause-damaged g c = λ obeys ahead inside no_one are.
    let up = climb c.args.index c.odd.level c.odd.left c.odd.invariant.at c.odd-test.true in
    let said = (compared g (goal.at.returns-then-ne-clause-damaged g c).After-ne obeys ahead inside).1 in
    entry-damaged (g.D.Disk.seen c.args.disk.now) c.args.index c.odd.level (λ l le. up.odd l (omega (arith, le)))
    (λ is. other-says c.node.result c.in_ok-above.above c.ne.result c.ne.ensures c.if-ne.true (said.back is)) are

pub odd-preserved : goal.odd-preserved
odd-preserved g c =
    let at = (goal.at.odd-preserved g c).After-ne in
    record {
      at = climb c.args.index c.odd.level c.odd.left c.odd.invariant.at c.odd-test.true;
      own = λ obeys ahead inside. (compared g at obeys ahead inside).0;
      hashed = λ obeys ahead inside k below. elim (cases_lt k c.odd.level) [
        | inl less ↦ c.odd.invariant.hashed obeys ahead inside k less
        | inr here ↦
            let e : k ≡ c.odd.level = omega (arith, here, below) in
            rw (e) ((compared g at obeys ahead inside).1.same (same-says c.node.result c.in_ok-above.above c.ne.result
            c.ne.ensures c.if-ne.false))
      ];
    }

pub returns-clause-sound : goal.returns-clause-sound
returns-clause-sound g c = λ obeys ahead inside are yes.
    let at = c.odd.invariant.at in
    entry-hashed (g.D.Disk.seen c.args.disk.now) c.args.index c.odd.level are at.odd
    (omega (arith, ap (λ n. n % 2) at.left_is, c.odd-test.false)) (c.odd.invariant.hashed obeys ahead inside)
