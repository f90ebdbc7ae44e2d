use Rattle.std.proofs.Common.{◌||◌, ap₂, sym, ◌∙◌, add-one, get_or}
use Rattle.std.proofs.lemmas.List.{get_or_default}
use Rattle.signed_notes.specs.Counting.{is_one_key}
use Rattle.signed_notes.specs.Views.{verifier_parts}
use Rattle.signed_notes.proofs.Known.{no-key}
use Rattle.signed_notes.proofs.Tests.{any-more}
use Rattle.signed_notes.proofs.counting.lists_key.Goals as goal

pub loop-one-preserved : goal.loop-one-preserved
loop-one-preserved c =
    let xs = c.args.keys.now in
    let i = c.loop-one.one-index in
    let x = get_or xs i no-key in
    let inside = c.loop-one-test.true in
    rw add-one (ap₂ (λ a b. a || b) c.loop-one.invariant c.is_one_key-any.ensures
    ∙ sym (any-more (λ one. is_one_key one (verifier_parts c.args.key.now)) verifier_parts xs i x inside
    (get_or_default xs i no-key x inside)))
