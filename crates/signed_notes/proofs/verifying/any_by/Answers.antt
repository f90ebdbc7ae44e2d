use Rattle.std.proofs.Common.{inl, inr, ◌||◌, ap₂, sym, ◌∙◌, add-one}
use Rattle.signed_notes.specs.Verifying.{is_named, IsTrueOf}
use Rattle.signed_notes.specs.Views.{parts, verifier_parts}
use Rattle.signed_notes.proofs.Tests.{all-item, all-more, any-more}
use Rattle.signed_notes.proofs.verifying.any_by.Goals as goal

pub returns-in-Err-clause-refused : goal.returns-in-Err-clause-refused
returns-in-Err-clause-refused c = elim c.in-Err.ensures.refused [
  | inl memory ↦ inl memory
  | inr bad ↦ inr (
    bad.0,
    λ all.
        bad.1 (all-item (IsTrueOf (verifier_parts c.args.verifier.now) c.args.text.now) parts c.args.signatures.now
        c.loop-signature.signature-index c.signature-item.result c.loop-signature-test.true c.signature-item.is all),
  )
]

pub loop-signature-preserved : goal.loop-signature-preserved
loop-signature-preserved c =
    let key = verifier_parts c.args.verifier.now in
    let i = c.loop-signature.signature-index in
    let xs = c.args.signatures.now in
    let x = c.signature-item.result in
    let inside = c.loop-signature-test.true in
    record {
      any = rw add-one (ap₂ (λ a b. a || b) c.loop-signature.invariant.any c.in-Ok.ensures.named
          ∙ sym (any-more (is_named key) parts xs i x inside c.signature-item.is));
      signed = rw add-one (all-more (IsTrueOf key c.args.text.now) parts xs i x inside c.signature-item.is
          c.loop-signature.invariant.signed c.in-Ok.ensures.signed);
    }
