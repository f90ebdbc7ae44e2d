use Rattle.std.proofs.Common.{All, List, if◌then◌else◌, get_or, inl, inr, ap, sym, ◌∙◌, add-one}
use Rattle.std.proofs.lemmas.List.{get_or_default}
use Rattle.signed_notes.specs.Counting.{key_added}
use Rattle.signed_notes.specs.Keys.{KeyParts}
use Rattle.signed_notes.specs.Verifying.{IsTrueOf}
use Rattle.signed_notes.specs.Views.{note_parts, verifier_parts}
use Rattle.signed_notes.proofs.Counted.{named-next}
use Rattle.signed_notes.proofs.Known.{no-key}
use Rattle.signed_notes.proofs.Tests.{all-item, all-more}
use Rattle.signed_notes.proofs.counting.signing_keys.Goals as goal

pub returns-in-Err-clause-refused : goal.returns-in-Err-clause-refused
returns-in-Err-clause-refused c =
    let xs = c.args.known.now in
    let i = c.loop-verifier.verifier-index in
    let x = get_or xs i no-key in
    let note = note_parts c.args.note.now in
    let inside = c.loop-verifier-test.true in
    elim c.in-Err.ensures.refused [
      | inl memory ↦ inl memory
      | inr refused ↦
          let bad = rw c.deref.ensures.value at refused.1 in
          inr (
            refused.0,
            λ all.
                bad (all-item (λ (key : KeyParts). All (IsTrueOf key note.text) note.signatures) verifier_parts xs i x
                inside (get_or_default xs i no-key x inside) all),
          )
    ]

pub loop-verifier-preserved : goal.loop-verifier-preserved
loop-verifier-preserved c =
    let xs = c.args.known.now in
    let i = c.loop-verifier.verifier-index in
    let x = get_or xs i no-key in
    let note = note_parts c.args.note.now in
    let inside = c.loop-verifier-test.true in
    let is = get_or_default xs i no-key x inside in
    let any = rw c.deref.ensures.value at c.in-Ok.ensures.any in
    let signed = rw c.deref.ensures.value at c.in-Ok.ensures.signed in
    record {
      keys = c.in_ok-add_key-in-Ok.ensures.added
          ∙ ap (λ (old : List KeyParts). if c.in-Ok.signed then (key_added old (verifier_parts x)) else old)
          c.loop-verifier.invariant.keys
          ∙ sym (rw add-one (named-next verifier_parts xs i x note.signatures inside is c.in-Ok.signed any));
      signed = rw add-one (all-more (λ (key : KeyParts). All (IsTrueOf key note.text) note.signatures) verifier_parts
          xs i x inside is c.loop-verifier.invariant.signed signed);
    }
