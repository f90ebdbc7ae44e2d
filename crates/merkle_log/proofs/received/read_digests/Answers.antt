use Rattle.std.proofs.Common.{Ok, ap, ◌∙◌, inr}
use Rattle.merkle_log.proofs.Receiving.{whole-more, whole-all, numbers-read}
use Rattle.merkle_log.proofs.received.read_digests.Goals as goal

pub returns-then-used-bytes : goal.returns-then-used-bytes
returns-then-used-bytes g c = inr (whole-more _ _ _ c.args.bytes.now c.in_ok-digests.used c.in_ok-digests.ensures.answer
    c.if-used-bytes.true)

pub returns : goal.returns
returns g c =
    whole-all _ _ _ c.args.bytes.now c.in_ok-digests.used c.in_ok-digests.ensures.answer c.if-used-bytes.false
    ∙ ap Ok (numbers-read g.D.Numbered.numbers g.D.Canonical.view (λ value. g.D.DigestItem.numbers_of
    (g.D.Canonical.spelling value)) g.met.D.DigestItem.numbers_are c.in_ok-digests.digests.items)
