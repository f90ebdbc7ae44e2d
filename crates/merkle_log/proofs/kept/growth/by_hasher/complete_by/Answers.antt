use Rattle.std.proofs.Common.{◌-◌, ◌∙◌, ap, sym, refl, arith}
use Rattle.std.proofs.Math.Logic.{⊎_map}
use Rattle.merkle_log.specs.Kept.{stored_front}
use Rattle.merkle_log.proofs.Asking.{peak-here-at}
use Rattle.merkle_log.proofs.Givens.{refused_on}
use Rattle.merkle_log.proofs.KeptRows.{front-long, up-rises}
use Rattle.merkle_log.proofs.Making.{making-first, making-room, making-place, making-next, making-refused, making-end, making-whole, room-first}
use Rattle.merkle_log.proofs.kept.growth.by_hasher.complete_by.Goals as goal

pub put-requires : goal.put-requires
put-requires g c = let more = room-first c.args.size in omega (arith, c.requires.whole, c.requires.room)

pub odd-init : goal.odd-init
odd-init g c = record {
  same = refl;
  at = making-first {kept = stored_front (g.R.Rows.stored c.args.rows.now)} c.put.ensures.front c.put.ensures.behind
      c.put.ensures.same;
}

pub digest_among-requires-clause-level : goal.digest_among-requires-clause-level
digest_among-requires-clause-level g c =
    let long = front-long _ c.args.first c.requires.size c.requires.stored in
    (making-place c.odd.invariant.at (omega (arith, c.requires.whole, long)) c.requires.fits
    (omega (arith, c.requires.room, long)) c.odd-test.true).0

pub digest_among-requires-clause-below : goal.digest_among-requires-clause-below
digest_among-requires-clause-below g c =
    let long = front-long _ c.args.first c.requires.size c.requires.stored in
    (making-place c.odd.invariant.at (omega (arith, c.requires.whole, long)) c.requires.fits
    (omega (arith, c.requires.room, long)) c.odd-test.true).1

pub digest_among-requires-clause-inside : goal.digest_among-requires-clause-inside
digest_among-requires-clause-inside g c =
    let long = front-long _ c.args.first c.requires.size c.requires.stored in
    let place = (making-place c.odd.invariant.at (omega (arith, c.requires.whole, long)) c.requires.fits
    (omega (arith, c.requires.room, long)) c.odd-test.true).2 in
    let more = room-first c.args.size in
    omega (arith, c.requires.whole, c.requires.room, c.odd.invariant.at.same, long)

pub digest_among-requires-clause-near : goal.digest_among-requires-clause-near
digest_among-requires-clause-near g c =
    let long = front-long _ c.args.first c.requires.size c.requires.stored in
    let place = (making-place c.odd.invariant.at (omega (arith, c.requires.whole, long)) c.requires.fits
    (omega (arith, c.requires.room, long)) c.odd-test.true).2 in
    omega (arith, c.requires.whole, long)

pub digest_among-requires-clause-held : goal.digest_among-requires-clause-held
digest_among-requires-clause-held g c = λ below.
    let rises = up-rises c.odd.level c.args.first c.args.size c.requires.longer in
    peak-here-at (g.R.Rows.Holds c.args.rows.now) c.args.first c.odd.level (c.odd.left - 1) c.requires.held
    (omega (arith, c.odd.invariant.at.completing.left_is)) (omega (arith, c.odd.invariant.at.completing.left_is))

pub returns-in_err-own-clause-refused : goal.returns-in_err-own-clause-refused
returns-in_err-own-clause-refused g c =
    let long = front-long _ c.args.first c.requires.size c.requires.stored in
    let hash = g.H.NodeHasher.hash c.args.hasher.now in
    refused_on _ c.from_residual.result c.in_err-own.field-0.0 c.from_residual.ensures.1
    (⊎_map (λ memory. memory)
    (λ refused. making-refused c.odd.invariant.at (omega (arith, c.requires.whole, long)) c.requires.fits
    (omega (arith, c.requires.room, long)) c.odd-test.true _ (ap (λ d. hash d c.odd.own) (sym c.digest_among.ensures)
    ∙ refused)) (rw (c.odd.invariant.same) at c.in_err-own.ensures.answer))

pub returns-in_err-own-clause-same : goal.returns-in_err-own-clause-same
returns-in_err-own-clause-same g c = c.in_err-own.ensures.same ∙ c.odd.invariant.same

pub put-requires-in-odd : goal.put-requires-in-odd
put-requires-in-odd g c =
    let long = front-long _ c.args.first c.requires.size c.requires.stored in
    making-room c.odd.invariant.at (omega (arith, c.requires.whole, long)) c.requires.fits
    (omega (arith, c.requires.room, long)) c.odd-test.true

pub odd-preserved : goal.odd-preserved
odd-preserved g c =
    let long = front-long _ c.args.first c.requires.size c.requires.stored in
    let hash = g.H.NodeHasher.hash c.args.hasher.now in
    record {
      same = c.in_ok-own.ensures.same ∙ c.odd.invariant.same;
      at = making-next c.odd.invariant.at (omega (arith, c.requires.whole, long)) c.requires.fits
          (omega (arith, c.requires.room, long)) c.odd-test.true _ _
          (ap (λ d. hash d c.odd.own) (sym c.digest_among.ensures)
          ∙ (rw (c.odd.invariant.same) at c.in_ok-own.ensures.answer))
          c.put-in-odd.ensures.front c.put-in-odd.ensures.behind c.put-in-odd.ensures.same;
    }

pub returns-clause-completed : goal.returns-clause-completed
returns-clause-completed g c =
    let long = front-long _ c.args.first c.requires.size c.requires.stored in
    making-end c.odd.invariant.at (omega (arith, c.requires.whole, long)) c.requires.fits
    (omega (arith, c.requires.room, long)) (omega arith)

pub returns-clause-whole : goal.returns-clause-whole
returns-clause-whole g c =
    let long = front-long _ c.args.first c.requires.size c.requires.stored in
    let whole = making-whole c.odd.invariant.at (omega (arith, c.requires.whole, long)) c.requires.fits
    (omega (arith, c.requires.room, long)) (omega arith) in
    omega (arith, long)
