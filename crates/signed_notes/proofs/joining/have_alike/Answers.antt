use Rattle.std.proofs.Common.{◌||◌, ap₂, sym, ◌∙◌, add-one}
use Rattle.signed_notes.specs.Joining.{are_alike}
use Rattle.signed_notes.specs.Views.{parts}
use Rattle.signed_notes.proofs.Tests.{any-more}
use Rattle.signed_notes.proofs.joining.have_alike.Goals as goal

pub loop-one-preserved : goal.loop-one-preserved
loop-one-preserved c =
    rw add-one (ap₂ (λ a b. a || b) c.loop-one.invariant c.are_alike-any.ensures
    ∙ sym (any-more (λ one. are_alike one (parts c.args.signature.now)) parts c.args.signatures.now c.loop-one.one-index
    c.one-item.result c.loop-one-test.true c.one-item.is))
