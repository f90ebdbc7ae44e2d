use Rattle.std.proofs.Common.{◌∙◌}
use Rattle.ark_base.specs.Digits.{itself}
use Rattle.ark_crh.specs.Ahead.{lent_couple, of_bytes}
use Rattle.ark_crh.proofs.SureRuns.{seen-more}
use Rattle.ark_crh.proofs.sha256.arrays.Goals as goal

pub couples-preserved : goal.couples-preserved
couples-preserved c =
    c.in_ok-push.ensures.items
    ∙ seen-more (lent_couple (of_bytes itself)) c.args.couples.now c.couples.place c.index-couples-place.result
    c.in-Some.next c.couples.made.items c.couples.invariant c.couples-test.true c.index-couples-place.is
    (λ i. ((c.in-Some.ensures.0 ∙ c.deref.ensures.value) i, (c.in-Some.ensures.1 ∙ c.deref-in-couples.ensures.value) i))
