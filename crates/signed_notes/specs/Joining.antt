-- Cosignatures that came apart, put to one note.
use Rattle.std.specs.Prelude.{◌≡◌, ◌⊎◌, ℕ, ◌&&◌, not, nat_lt, Bool, true, false, List, ◌++◌, length, Ok, Err}
use Rattle.std.specs.List.{filter, list_any}
use Rattle.std.specs.Str.{bytes_eq}
use Rattle.signed_notes.specs.Keys.{KeyParts}
use Rattle.signed_notes.specs.Notes.{NoteParts, SignatureParts}
use Rattle.signed_notes.specs.Opening.{signed_since}
use Rattle.signed_notes.specs.Reading.{read_note}
use Rattle.signed_notes.specs.Verifying.{AreTrue, IsWhy, is_named}
use Rattle.signed_notes.specs.Writing.{write_note}
use Rattle.signed_notes.specs.declared.fault.Fault.{Fault}
use Rattle.signed_notes.specs.declared.fault.Fault.TheVariants.{Memory, UnknownKey}

-- a signature names one of some keys
abbrev pub names_any : List KeyParts → SignatureParts → Bool
names_any keys s = list_any (λ key. is_named key s) keys

-- two signatures have the same name and hash
abbrev pub are_alike : SignatureParts → SignatureParts → Bool
are_alike a b = bytes_eq a.name b.name && bytes_eq a.hash b.hash

-- a signature is alike one of these
abbrev pub have_alike : List SignatureParts → SignatureParts → Bool
have_alike signatures s = list_any (λ one. are_alike one s) signatures

-- the signatures of a note by some keys, from a time on
abbrev pub signed_by_any : List KeyParts → ℕ → NoteParts → List SignatureParts
signed_by_any keys since note = filter (names_any keys) (signed_since since note.signatures)

-- a note with signatures behind its own, and without those of its own that they are alike
abbrev pub with_signatures : NoteParts → List SignatureParts → NoteParts
with_signatures note more = record {
  text = note.text;
  signatures = filter (λ s. not (have_alike more s)) note.signatures ++ more;
}

-- The bytes are a note with the signatures of another one of its text by some keys, from a time on; there are some, and
-- none of that note names one of the keys and is another's.
pub record IsGathered (keys : List KeyParts) (since : ℕ) (first second bytes : List ℕ) : Type 0 where
  pub note : NoteParts
  pub other : NoteParts
  pub read : read_note first ≡ Ok note
  pub read_other : read_note second ≡ Ok other
  pub same : bytes_eq note.text other.text ≡ true
  pub true_of : AreTrue keys other
  pub some : nat_lt 0 (length (signed_by_any keys since other)) ≡ true
  pub written : write_note (with_signatures note (signed_by_any keys since other)) ≡ Ok bytes

-- Both are notes, of two texts.
pub record HaveTwoTexts (first second : List ℕ) : Type 0 where
  pub note : NoteParts
  pub other : NoteParts
  pub read : read_note first ≡ Ok note
  pub read_other : read_note second ≡ Ok other
  pub differ : bytes_eq note.text other.text ≡ false

-- Both are notes; the second one has no signature by the keys from the time on, or the joined note is not written.
pub record IsUngathered (keys : List KeyParts) (since : ℕ) (first second : List ℕ) (fault : Fault) : Type 0 where
  pub note : NoteParts
  pub other : NoteParts
  pub read : read_note first ≡ Ok note
  pub read_other : read_note second ≡ Ok other
  pub told : ((fault ≡ UnknownKey) × (nat_lt 0 (length (signed_by_any keys since other)) ≡ false))
      ⊎ (write_note (with_signatures note (signed_by_any keys since other)) ≡ Err fault)

-- why notes are not joined
abbrev pub IsNotGathered : List KeyParts → ℕ → List ℕ → List ℕ → Fault → Type 0
IsNotGathered keys since first second fault = (fault ≡ Memory) ⊎ (read_note first ≡ Err fault)
    ⊎ IsWhy keys second fault ⊎ IsUngathered keys since first second fault
