-- Checkpoints that are opened: signed by their log, and by so many keys of witnesses.
use Rattle.std.specs.Prelude.{◌≡◌, ◌⊎◌, ℕ, ◌<◌, ◌≤◌, nat_le, true, false, List, All, Result, Ok, Err}
use Rattle.std.specs.List.{filter, list_any}
use Rattle.std.specs.Str.{bytes_eq}
use Rattle.ark_base.specs.Outcome.{◌>>=◌}
use Rattle.signed_notes.specs.Counting.{key_count}
use Rattle.signed_notes.specs.Checkpoints.{CheckpointParts, read_checkpoint}
use Rattle.signed_notes.specs.Cosignatures.{stated_time}
use Rattle.signed_notes.specs.Faults.{only_where}
use Rattle.signed_notes.specs.Keys.{KeyParts}
use Rattle.signed_notes.specs.Notes.{NoteParts, SignatureParts}
use Rattle.signed_notes.specs.Reading.{read_note}
use Rattle.signed_notes.specs.Verifying.{AreTrue, IsTrueOf, is_named}
use Rattle.signed_notes.specs.declared.fault.Fault.{Fault}
use Rattle.signed_notes.specs.declared.fault.Fault.TheVariants.{BadSignature, FewWitnesses, Memory, OtherOrigin, UnknownKey}

-- a checkpoint of this origin alone
abbrev pub of_origin : List ℕ → CheckpointParts → Result CheckpointParts Fault
of_origin origin c = only_where (bytes_eq c.origin origin) OtherOrigin (Ok c)

-- the checkpoint of an origin that a text says
abbrev pub checkpoint_by : List ℕ → List ℕ → Result CheckpointParts Fault
checkpoint_by origin text = read_checkpoint text >>= of_origin origin

-- the signatures that state a time from one on, in seconds since 1970; all of them, where it is 0
abbrev pub signed_since : ℕ → List SignatureParts → List SignatureParts
signed_since since signatures = filter (λ s. nat_le since (stated_time s.bytes)) signatures

-- a note with these signatures alone
abbrev pub note_since : ℕ → NoteParts → NoteParts
note_since since note = record { text = note.text; signatures = signed_since since note.signatures }

-- Who has to sign a checkpoint: its log, and as many keys of some witnesses as the quorum says, from a time on.
pub record Policy : Type 0 where
  pub log : KeyParts
  pub witnesses : List KeyParts
  pub quorum : ℕ
  pub since : ℕ

-- The log signed the note, and from the time on as many keys of the witnesses as are asked for, each counted once; no
-- signature that counts and names one of these keys is another's.
pub record IsWitnessed (p : Policy) (note : NoteParts) : Type 0 where
  pub by_log : list_any (is_named p.log) note.signatures ≡ true
  pub log_true : All (IsTrueOf p.log note.text) note.signatures
  pub witnesses_true : AreTrue p.witnesses (note_since p.since note)
  pub enough : p.quorum ≤ key_count p.witnesses (signed_since p.since note.signatures)

-- a signature that counts and names one of the keys is none by it
abbrev pub IsFalse : Policy → NoteParts → Type 0
IsFalse p note =
    (All (IsTrueOf p.log note.text) note.signatures → ⊥) ⊎ (AreTrue p.witnesses (note_since p.since note) → ⊥)

-- why a note is not signed as a policy asks
abbrev pub IsUnwitnessed : Policy → NoteParts → Fault → Type 0
IsUnwitnessed p note fault =
    ((fault ≡ BadSignature) × IsFalse p note)
    ⊎ ((fault ≡ UnknownKey) × (list_any (is_named p.log) note.signatures ≡ false))
    ⊎ ((fault ≡ FewWitnesses) × (key_count p.witnesses (signed_since p.since note.signatures) < p.quorum))

-- The bytes are a note that is signed as a policy asks, and its text is this checkpoint, of this origin.
pub record IsOpened (p : Policy) (origin bytes : List ℕ) (c : CheckpointParts) : Type 0 where
  pub note : NoteParts
  pub read : read_note bytes ≡ Ok note
  pub signed : IsWitnessed p note
  pub checkpoint : checkpoint_by origin note.text ≡ Ok c

-- why a checkpoint is not opened
abbrev pub IsClosed : Policy → List ℕ → List ℕ → Fault → Type 0
IsClosed p origin bytes fault = (fault ≡ Memory) ⊎ (read_note bytes ≡ Err fault)
    ⊎ ((note : NoteParts) × (read_note bytes ≡ Ok note)
    × (IsUnwitnessed p note fault ⊎ (IsWitnessed p note × (checkpoint_by origin note.text ≡ Err fault))))
