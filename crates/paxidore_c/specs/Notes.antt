-- Signed checkpoints and receipts, as calls for C have them.
use Rattle.std.specs.Prelude.{◌≡◌, ◌⊎◌, ℕ, if◌then◌else◌, false, List, [], ◌∷◌, ℤ, Result, Ok, Err}
use Rattle.std.specs.Str.{is_utf8}
use Rattle.ark_paths.specs.Pair.{Digest}
use Rattle.log_checkpoints.specs.Receipts.{IsReceiptOf, IsUnread, IsUnsignedReceipt, LeadsElsewhere}
use Rattle.log_checkpoints.specs.declared.receipts.ReceiptFault.{ReceiptFault}
use Rattle.log_checkpoints.specs.declared.receipts.ReceiptFault.TheVariants.{Spelling, Note as OfNote}
use Rattle.paxidore_calls.specs.Answer.{refusal_code}
use Rattle.paxidore_calls.specs.declared.refused.Refused.{Refused}
use Rattle.paxidore_calls.specs.declared.refused.Refused.TheVariants.{Memory as NoMemory, Invalid, NoPolicy, BadSignature as Forged, Unsigned, OtherOrigin as OfAnother}
use Rattle.signed_notes.specs.Checkpoints.{CheckpointParts}
use Rattle.signed_notes.specs.Keys.{as_it_stands, ed25519_byte, write_key}
use Rattle.signed_notes.specs.Opening.{IsClosed, IsOpened, Policy}
use Rattle.signed_notes.specs.PolicyFiles.{read_policy}
use Rattle.signed_notes.specs.Verifying.{sign_checkpoint}
use Rattle.signed_notes.specs.declared.fault.Fault.{Fault}
use Rattle.signed_notes.specs.declared.fault.Fault.TheVariants.{Memory, TooLong, NotText, NoSignatures, Unfinished, TooMany, Line, Name, Base64, Short, Key, Algorithm, Ecdsa, TreeHead, KeyHash, BadSignature, UnknownKey, OtherOrigin, FewWitnesses, Origin, Size, Root, Extensions}

-- ---- refusals

-- the refusal of a fault of a note, of a key or of a checkpoint
abbrev pub note_refused : Fault → Refused
note_refused Memory = NoMemory
note_refused TooLong = Invalid
note_refused NotText = Invalid
note_refused NoSignatures = Invalid
note_refused Unfinished = Invalid
note_refused TooMany = Invalid
note_refused Line = Invalid
note_refused Name = Invalid
note_refused Base64 = Invalid
note_refused Short = Invalid
note_refused Key = Invalid
note_refused Algorithm = Invalid
note_refused Ecdsa = Invalid
note_refused TreeHead = Invalid
note_refused KeyHash = Invalid
note_refused BadSignature = Forged
note_refused UnknownKey = Unsigned
note_refused OtherOrigin = OfAnother
note_refused FewWitnesses = Unsigned
note_refused Origin = Invalid
note_refused Size = Invalid
note_refused Root = Invalid
note_refused Extensions = Invalid

-- the refusal of a fault of a receipt
abbrev pub receipt_refused : ReceiptFault → Refused
receipt_refused Spelling = Invalid
receipt_refused (OfNote fault) = note_refused fault

-- what is written, with the refusals for C
abbrev pub refusing_note : {A : Type 0} → Result A Fault → Result A Refused
refusing_note (Ok value) = Ok value
refusing_note (Err fault) = Err (note_refused fault)

-- The code is that of a refusal, and this is so of the refusal.
abbrev pub IsRefusedAs : (Refused → Type 0) → ℤ → Type 0
IsRefusedAs P code = (refused : Refused) × (code ≡ refusal_code refused) × P refused

-- ---- who has to sign, and of which origin

-- a policy whose witnesses have to have signed from a time on
abbrev pub policy_since : ℕ → Policy → Policy
policy_since since p = record { log = p.log; witnesses = p.witnesses; quorum = p.quorum; since = since }

-- the origin that is asked for, or a name where none is
abbrev pub or_name : List ℕ → List ℕ → List ℕ
or_name [] name = name
or_name (byte ∷ bytes) name = byte ∷ bytes

-- The text of a policy and an origin say who has to sign, from a time on, and of which origin.
pub record AreAsked (text : List ℕ) (since : ℕ) (asked : List ℕ) (p : Policy) (origin : List ℕ) : Type 0 where
  pub file : Policy
  pub read : read_policy text ≡ Ok file
  pub policy_is : p ≡ policy_since since file
  pub origin_is : origin ≡ or_name asked file.log.name

-- Why they do not: the text is no policy, or the origin is no text.
pub record AreNotAsked (text asked : List ℕ) (refused : Refused) : Type 0 where
  pub told : ((refused ≡ NoPolicy) × ((p : Policy) → read_policy text ≡ Ok p → ⊥))
      ⊎ ((refused ≡ OfAnother) × (is_utf8 asked ≡ false)) ⊎ (refused ≡ NoMemory)

-- ---- checkpoints

-- The note is of a checkpoint of this size and root, of the origin, and signed as the policy asks.
pub record IsStated (text : List ℕ) (since : ℕ) (asked note : List ℕ) (size : ℕ) (root : Digest) : Type 0 where
  pub policy : Policy
  pub origin : List ℕ
  pub stated : CheckpointParts
  pub asked_for : AreAsked text since asked policy origin
  pub opened : IsOpened policy origin note stated
  pub size_is : stated.size ≡ size
  pub root_is : stated.root ≡ root

-- The note is closed to who is asked for.
pub record IsClosedTo (text : List ℕ) (since : ℕ) (asked note : List ℕ) (refused : Refused) : Type 0 where
  pub policy : Policy
  pub origin : List ℕ
  pub fault : Fault
  pub asked_for : AreAsked text since asked policy origin
  pub closed : IsClosed policy origin note fault
  pub refusal_is : refused ≡ note_refused fault

-- why a note states nothing
abbrev pub IsNotStated : List ℕ → ℕ → List ℕ → List ℕ → Refused → Type 0
IsNotStated text since asked note refused = AreNotAsked text asked refused ⊎ IsClosedTo text since asked note refused

-- ---- receipts

-- The bytes are a receipt of an entry at an index of the log with this size and root, signed as the policy asks.
pub record IsProved (text : List ℕ) (since : ℕ) (asked entry bytes : List ℕ) (index size : ℕ) (root : Digest)
    : Type 0 where
  pub policy : Policy
  pub origin : List ℕ
  pub asked_for : AreAsked text since asked policy origin
  pub receipt : IsReceiptOf policy origin bytes entry index size root

-- The receipt is signed as the policy asks, and its path does not lead from the entry to the root.
pub record LeadsAway (text : List ℕ) (since : ℕ) (asked entry bytes : List ℕ) : Type 0 where
  pub policy : Policy
  pub origin : List ℕ
  pub asked_for : AreAsked text since asked policy origin
  pub elsewhere : LeadsElsewhere policy origin bytes entry

-- The receipt is refused to who is asked for: it is none, or its checkpoint is closed.
pub record IsRefusedTo (text : List ℕ) (since : ℕ) (asked bytes : List ℕ) (refused : Refused) : Type 0 where
  pub policy : Policy
  pub origin : List ℕ
  pub why : ReceiptFault
  pub asked_for : AreAsked text since asked policy origin
  pub told : IsUnread bytes why ⊎ IsUnsignedReceipt policy origin bytes why
  pub refusal_is : refused ≡ receipt_refused why

-- why a receipt proves nothing
abbrev pub IsNotProved : List ℕ → ℕ → List ℕ → List ℕ → Refused → Type 0
IsNotProved text since asked bytes refused = AreNotAsked text asked refused ⊎ IsRefusedTo text since asked bytes refused

-- ---- signing

-- what is written of a text, and `Invalid` where it is none
abbrev pub of_text : {A : Type 0} → List ℕ → Result A Refused → Result A Refused
of_text text made = if is_utf8 text then made else Err Invalid

-- the note of a checkpoint that the key of a seed signs, under a name
abbrev pub signed_checkpoint : List ℕ → List ℕ → List ℕ → Digest → ℕ → Result (List ℕ) Refused
signed_checkpoint seed name origin root size = of_text name (of_text origin (refusing_note (sign_checkpoint
    (record { origin = origin; size = size; root = root; extensions = [] })
    ((record { name = name; algorithm = ed25519_byte; bytes = seed }) ∷ []))))

-- the text of a verifier's key
abbrev pub verifier_text : List ℕ → List ℕ → Result (List ℕ) Refused
verifier_text name key = of_text name
    (refusing_note (write_key [] as_it_stands (record { name = name; algorithm = ed25519_byte; bytes = key })))
