use Rattle.std.proofs.Common.{◌≡◌, ◌≤◌, ◌+◌, ◌*◌, length, take, drop, ap, sym, ◌∙◌, inl, inr, arith}
use Rattle.std.proofs.lemmas.Bool.{cases_lt}
use Rattle.merkle_log.proofs.Hashed.{other-says, same-says}
use Rattle.log_file.specs.LogFile.{file_end}
use Rattle.log_store.specs.Sound.{placed}
use Rattle.log_store.proofs.Reading.{stands}
use Rattle.log_store.proofs.finding.first_with.Goals.{After-ne}
use Rattle.log_store.proofs.finding.first_with.Goals as goal

pub look_at-requires-clause-before : goal.look_at-requires-clause-before
look_at-requires-clause-before g c =
    let at = stands c.args.size 0 c.entries.index c.requires.fits (omega (arith, c.entries-test.true)) in
    omega (arith, at.within, c.position_of-position.ensures, c.stored_count.ensures)

pub digest_in-requires-clause-near : goal.digest_in-requires-clause-near
digest_in-requires-clause-near g c =
    let at = stands c.args.size 0 c.entries.index c.requires.fits (omega (arith, c.entries-test.true)) in
    omega (arith, at.within, c.position_of-position.ensures, c.requires.near)

-- the digest that is compared
found-is : (g : _) (c : After-ne g) → g.D.Disk.Obeys c.args.disk.now
    → file_end c.args.size ≤ length (g.D.Disk.seen c.args.disk.now)
    → c.in_ok-found.found ≡ placed (g.D.Disk.seen c.args.disk.now) 0 c.entries.index
found-is g c obeys inside =
    let at = stands c.args.size 0 c.entries.index c.requires.fits (omega (arith, c.entries-test.true)) in
    let ahead = c.in_ok-look_at.ensures.ahead obeys (omega (arith, inside, c.stored_count.ensures)) in
    c.in_ok-found.ensures obeys (ahead (c.entries.invariant.ahead obeys inside))
    (omega (arith, at.within, c.position_of-position.ensures, inside))
    ∙ ap (λ p. take 32 (drop (96 + 32 * p) (g.D.Disk.seen c.args.disk.now))) c.position_of-position.ensures

pub entries-preserved : goal.entries-preserved
entries-preserved g c =
    let seen = g.D.Disk.seen c.args.disk.now in
    let at = (goal.at.entries-preserved g c).After-ne in
    record {
      below = omega (arith, c.entries-test.true);
      fits = c.in_ok-look_at.ensures.fits c.entries.invariant.fits;
      ahead = λ obeys inside. c.in_ok-look_at.ensures.ahead obeys (omega (arith, inside, c.stored_count.ensures))
          (c.entries.invariant.ahead obeys inside);
      others = λ obeys inside i below is. elim (cases_lt i c.entries.index) [
        | inl less ↦ c.entries.invariant.others obeys inside i less is
        | inr here ↦
            let e : i ≡ c.entries.index = omega (arith, here, below) in
            other-says c.in_ok-found.found c.args.digest.now c.ne.result c.ne.ensures c.if-ne.true
            (found-is g at obeys inside ∙ ap (placed seen 0) (sym e) ∙ is)
      ];
    }

pub returns-else-ne : goal.returns-else-ne
returns-else-ne g c = λ obeys inside.
    let at = (goal.at.returns-else-ne g c).After-ne in (
      omega (arith, c.entries-test.true),
      sym (found-is g at obeys inside)
          ∙ same-says c.in_ok-found.found c.args.digest.now c.ne.result c.ne.ensures c.if-ne.false,
      c.entries.invariant.others obeys inside,
    )
