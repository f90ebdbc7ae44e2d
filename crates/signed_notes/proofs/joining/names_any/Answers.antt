use Rattle.std.proofs.Common.{◌||◌, ap₂, sym, ◌∙◌, add-one, get_or}
use Rattle.std.proofs.lemmas.List.{get_or_default}
use Rattle.signed_notes.specs.Verifying.{is_named}
use Rattle.signed_notes.specs.Views.{parts, verifier_parts}
use Rattle.signed_notes.proofs.Known.{no-key}
use Rattle.signed_notes.proofs.Tests.{any-more}
use Rattle.signed_notes.proofs.joining.names_any.Goals as goal

pub loop-key-preserved : goal.loop-key-preserved
loop-key-preserved c =
    let xs = c.args.keys.now in
    let i = c.loop-key.key-index in
    let x = get_or xs i no-key in
    let inside = c.loop-key-test.true in
    rw add-one (ap₂ (λ a b. a || b) c.loop-key.invariant c.is_named-any.ensures
    ∙ sym (any-more (λ key. is_named key (parts c.args.signature.now)) verifier_parts xs i x inside
    (get_or_default xs i no-key x inside)))
