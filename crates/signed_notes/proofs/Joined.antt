-- Signatures that are put to a note.
use Rattle.std.proofs.Common.{zero, suc, ◌≡◌, ℕ, ◌<◌, ◌++◌, ◌==◌, not, Bool, true, false, List, Result, map, length, ap, refl, sym, ◌∙◌, arith}
use Rattle.std.proofs.lemmas.List.{length-map}
use Rattle.std.specs.List.{filter}
use Rattle.signed_notes.specs.Joining.{have_alike, signed_by_any, with_signatures}
use Rattle.signed_notes.specs.Keys.{KeyParts}
use Rattle.signed_notes.specs.Notes.{NoteParts}
use Rattle.signed_notes.specs.Views.{parts, parts_of_note}
use Rattle.signed_notes.specs.Writing.{write_note}
use Rattle.signed_notes.specs.declared.fault.Fault.{Fault}
use Rattle.signed_notes.specs.declared.note.Signature.{Signature}

pub by-not : (test : Bool) → false ≡ not test → test ≡ true
by-not true is = refl
by-not false is = absurd cc

pub some-of : (n : ℕ) → false ≡ (n == 0) → 0 < n
some-of zero is = absurd cc
some-of (suc n) is = omega arith

module _ (keys : List KeyParts) (since : ℕ) (other : NoteParts) (more : List Signature)
    (are : map parts more ≡ signed_by_any keys since other) where
  pub so-many : length more ≡ length (signed_by_any keys since other)
  so-many = sym (length-map more parts) ∙ ap length are

  -- What is written of a note and of its signatures with these behind them.
  pub written-joined : (note : NoteParts) (own all : List Signature) (out : Result (List ℕ) Fault)
      → map parts own ≡ note.signatures
      → map parts all ≡ filter (λ s. not (have_alike (map parts more) s)) (map parts own) ++ map parts more
      → write_note (parts_of_note note.text (map parts all)) ≡ out
      → write_note (with_signatures note (signed_by_any keys since other)) ≡ out
  written-joined note own all out owned is written =
      ap (λ xs. write_note (parts_of_note note.text xs))
      (sym (is ∙ ap (λ xs. filter (λ s. not (have_alike xs s)) (map parts own) ++ xs) are
      ∙ ap (λ xs. filter (λ s. not (have_alike (signed_by_any keys since other) s)) xs
      ++ signed_by_any keys since other) owned)) ∙ written
