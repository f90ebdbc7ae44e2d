use Rattle.std.proofs.Common.{◌++◌, ◌∷◌, [], All, Bool, get_or, map, take, inl, inr, ap, sym, ◌∙◌, add-one}
use Rattle.std.proofs.lemmas.List.{get_or_default}
use Rattle.std.specs.List.{list_any}
use Rattle.signed_notes.specs.Keys.{KeyParts}
use Rattle.signed_notes.specs.Verifying.{is_named, IsTrueOf}
use Rattle.signed_notes.specs.Views.{note_parts, verifier_parts}
use Rattle.signed_notes.specs.declared.keys.Algorithm.TheVariants.{Ed25519}
use Rattle.signed_notes.specs.declared.keys.Verifier.{Verifier}
use Rattle.signed_notes.proofs.Tests.{all-item, all-more, map-more}
use Rattle.signed_notes.proofs.verifying.accepted.Goals as goal

-- what stands past the end of a list of verifiers
none : Verifier
none = record { name = record { ref_ptr = (0, 0); now = [] }; algorithm = Ed25519; key = [] }

pub returns-in-Err-clause-refused : goal.returns-in-Err-clause-refused
unfolding none
returns-in-Err-clause-refused c =
    let xs = c.args.known.now in
    let i = c.loop-verifier.verifier-index in
    let x = get_or xs i none in
    let note = note_parts c.args.note.now in
    let inside = c.loop-verifier-test.true in
    elim c.in-Err.ensures.refused [
      | inl memory ↦ inl memory
      | inr refused ↦
          let bad = rw c.deref.ensures.value at refused.1 in
          inr (
            refused.0,
            λ all.
                bad (all-item (λ (key : KeyParts). All (IsTrueOf key note.text) note.signatures) verifier_parts xs i x
                inside (get_or_default xs i none x inside) all),
          )
    ]

pub loop-verifier-preserved : goal.loop-verifier-preserved
unfolding none
loop-verifier-preserved c =
    let xs = c.args.known.now in
    let i = c.loop-verifier.verifier-index in
    let x = get_or xs i none in
    let note = note_parts c.args.note.now in
    let inside = c.loop-verifier-test.true in
    let is = get_or_default xs i none x inside in
    let named = λ (key : KeyParts). list_any (is_named key) note.signatures in
    let any = rw c.deref.ensures.value at c.in-Ok.ensures.any in
    let signed = rw c.deref.ensures.value at c.in-Ok.ensures.signed in
    record {
      accepted = c.in_ok-push-in-Ok.ensures.items ∙ ap (λ l. l ++ (c.in-Ok.any ∷ [])) c.loop-verifier.invariant.accepted
          ∙ ap (λ (b : Bool). map named (map verifier_parts (take i xs)) ++ (b ∷ [])) any
          ∙ sym (rw add-one (map-more named verifier_parts xs i x inside is));
      signed = rw add-one (all-more (λ (key : KeyParts). All (IsTrueOf key note.text) note.signatures) verifier_parts
          xs i x inside is c.loop-verifier.invariant.signed signed);
    }
