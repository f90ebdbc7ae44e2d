use Rattle.std.proofs.Common.{◌≡◌, length, map, arith, ap, refl, sym, inl, inr, ◌∙◌}
use Rattle.std.proofs.lemmas.Bool.{eqb-true, le-ltb, lt-ltb}
use Rattle.std.specs.List.{filter}
use Rattle.signed_notes.specs.Joining.{names_any, signed_by_any}
use Rattle.signed_notes.specs.Views.{note_parts, parts, verifier_parts}
use Rattle.signed_notes.proofs.Joined.{by-not, so-many, some-of, written-joined}
use Rattle.signed_notes.proofs.joining.join_signatures.Goals as goal

pub returns-then-is_empty-clause-refused : goal.returns-then-is_empty-clause-refused
returns-then-is_empty-clause-refused c =
    let keys = map verifier_parts c.args.keys.now in
    let other = note_parts c.in_ok-of_other.field-0.note in
    let fresh = c.keep_named.new.signatures in
    let are : map parts fresh.items ≡ signed_by_any keys c.args.since other =
    c.keep_named.ensures ∙ ap (filter (names_any keys)) c.keep_since.ensures in
    let none : length fresh.items ≡ 0 = sym fresh.ok.0 ∙ eqb-true _ 0 (sym c.if-is_empty.ensures) in
    inr (inr (inr (record {
      note = note_parts c.in_ok-text.field-0;
      other = other;
      read = c.in_ok-text.ensures;
      read_other = c.in_ok-of_other.ensures.read;
      told = inl (refl, le-ltb 0 _ (omega (arith, none, so-many keys c.args.since other fresh.items are)));
    })))

pub returns-in-Ok-clause-joined : goal.returns-in-Ok-clause-joined
returns-in-Ok-clause-joined c =
    let keys = map verifier_parts c.args.keys.now in
    let note = note_parts c.in_ok-text.field-0 in
    let other = note_parts c.in_ok-of_other.field-0.note in
    let fresh = c.keep_named.new.signatures in
    let are : map parts fresh.items ≡ signed_by_any keys c.args.since other =
    c.keep_named.ensures ∙ ap (filter (names_any keys)) c.keep_since.ensures in
    record {
      note = note;
      other = other;
      read = c.in_ok-text.ensures;
      read_other = c.in_ok-of_other.ensures.read;
      same = by-not _ c.if-ne.ensures;
      true_of = c.in_ok-of_other.ensures.signed;
      some = lt-ltb 0 _ (omega (
        arith,
        so-many keys c.args.since other fresh.items are,
        fresh.ok.0,
        some-of _ c.if-is_empty.ensures,
      ));
      written = written-joined keys c.args.since other fresh.items are note c.in_ok-text.field-0.signatures.items
          c.deref.result.now _ refl (ap (map parts) c.deref.ensures.value ∙ c.in_ok-signatures.ensures.joined)
          c.in-Ok.ensures;
    }

pub returns-clause-refused : goal.returns-clause-refused
returns-clause-refused c =
    let keys = map verifier_parts c.args.keys.now in
    let note = note_parts c.in_ok-text.field-0 in
    let other = note_parts c.in_ok-of_other.field-0.note in
    let fresh = c.keep_named.new.signatures in
    let are : map parts fresh.items ≡ signed_by_any keys c.args.since other =
    c.keep_named.ensures ∙ ap (filter (names_any keys)) c.keep_since.ensures in
    elim c.in-Err.ensures [
      | inl memory ↦ inl memory
      | inr refused ↦ inr (inr (inr (record {
        note = note;
        other = other;
        read = c.in_ok-text.ensures;
        read_other = c.in_ok-of_other.ensures.read;
        told = inr (written-joined keys c.args.since other fresh.items are note c.in_ok-text.field-0.signatures.items
            c.deref.result.now _ refl (ap (map parts) c.deref.ensures.value ∙ c.in_ok-signatures.ensures.joined)
            refused);
      })))
    ]
