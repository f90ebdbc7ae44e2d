-- Requests of logs that a witness adds a checkpoint, and its replies, as C2SP's tlog-witness has them.
use Rattle.std.specs.Prelude.{◌≡◌, ◌≢◌, ◌⊎◌, ℕ, ◌<◌, ◌^◌, List, [], ◌∷◌, ◌++◌, Contains, Option, Some, None, Result, Ok, Err, codes}
use Rattle.std.specs.Fmt.{decimal}
use Rattle.ark_base.specs.Outcome.{◌>>=◌}
use Rattle.ark_paths.specs.Pair.{Digest}
use Rattle.log_checkpoints.specs.Receipts.{numbered, IsPath}
use Rattle.log_checkpoints.specs.Witnessing.{head_of, WitnessParts}
use Rattle.log_checkpoints.specs.declared.adding.Denial.{Denial}
use Rattle.log_checkpoints.specs.declared.adding.Denial.TheVariants.{Conflict, Forked, Malformed, Unproved, UnknownOrigin, Untrusted}
use Rattle.log_checkpoints.specs.declared.adding.Reply.{Reply}
use Rattle.log_checkpoints.specs.declared.adding.Reply.TheVariants.{Denied, Signed}
use Rattle.log_checkpoints.specs.declared.adding.Unanswered.{Unanswered}
use Rattle.log_checkpoints.specs.declared.adding.Unanswered.TheVariants.{File, Note}
use Rattle.log_checkpoints.specs.declared.adding.Unprepared.{Unprepared}
use Rattle.log_checkpoints.specs.declared.adding.Unprepared.TheVariants.{Failed, Rejected}
use Rattle.log_tiles.specs.Led.{IsProofFault}
use Rattle.log_tiles.specs.declared.by_proof.ProofFault.TheVariants.{Fork, Path, Size}
use Rattle.log_tiles.specs.declared.following.Head.{Head}
use Rattle.signed_notes.specs.Checkpoints.{CheckpointParts, read_checkpoint}
use Rattle.signed_notes.specs.Keys.{KeyParts}
use Rattle.signed_notes.specs.LogLists.{ListedParts}
use Rattle.signed_notes.specs.Opening.{IsClosed, IsOpened}
use Rattle.signed_notes.specs.Reading.{read_note}
use Rattle.signed_notes.specs.Verifying.{cosigned_by}
use Rattle.signed_notes.specs.Writing.{written_line}
use Rattle.signed_notes.specs.declared.fault.Fault.{Fault}
use Rattle.signed_notes.specs.declared.fault.Fault.TheVariants.{Memory}

-- how a request begins
abbrev pub old_title : List ℕ
old_title = codes "old "

-- a request: the size that the witness signed last, the consistency proof from it, and the note of the new checkpoint
abbrev pub adding : ℕ → List Digest → List ℕ → List ℕ
adding old path note = old_title ++ numbered old path note

-- The bytes are a request of these parts.
pub record IsAdding (old : ℕ) (path : List Digest) (note bytes : List ℕ) : Type 0 where
  pub fits : old < 2 ^ 64
  pub path_is : IsPath path
  pub spelled : bytes ≡ adding old path note

-- The bytes are no request.
abbrev pub IsNoAdding : List ℕ → Type 0
IsNoAdding bytes = (old : ℕ) (path : List Digest) (note : List ℕ) → IsAdding old path note bytes → ⊥

-- the checkpoint that a note states, whoever signed it
abbrev pub unsigned_in : List ℕ → Result CheckpointParts Fault
unsigned_in bytes = read_note bytes >>= λ note. read_checkpoint note.text

-- the line of a witness's cosignature of a note, at a time
abbrev pub cosigned_line : KeyParts → ℕ → List ℕ → Result (List ℕ) Fault
cosigned_line key time bytes = read_note bytes >>= λ note. written_line (cosigned_by note.text time key)

-- Why the note of a request is not looked at further, whatever was signed before.
abbrev pub IsRejectedNote : WitnessParts → ℕ → List ℕ → Denial → Type 0
IsRejectedNote w old note Malformed = ((fault : Fault) × (unsigned_in note ≡ Err fault))
    ⊎ ((stated : CheckpointParts) × IsOpened w.policy w.origin note stated × (stated.size < old))
IsRejectedNote w old note UnknownOrigin =
    (stated : CheckpointParts) × (unsigned_in note ≡ Ok stated) × (stated.origin ≢ w.origin)
IsRejectedNote w old note Untrusted =
    (fault : Fault) × IsClosed w.policy w.origin note fault × (fault ≢ Memory)
IsRejectedNote w old note (Conflict size) = ⊥
IsRejectedNote w old note (Forked size) = ⊥
IsRejectedNote w old note Unproved = ⊥

-- Why a request does not lead on from the head that was signed last.
abbrev pub IsRejectedProof : Head → ℕ → Head → List Digest → Denial → Type 0
IsRejectedProof held old new path Malformed = ⊥
IsRejectedProof held old new path UnknownOrigin = ⊥
IsRejectedProof held old new path Untrusted = ⊥
IsRejectedProof held old new path (Conflict size) = (size ≡ held.size) × IsProofFault held old new path Size
IsRejectedProof held old new path (Forked size) = (size ≡ held.size) × IsProofFault held old new path Fork
IsRejectedProof held old new path Unproved = IsProofFault held old new path Path

-- A request of these parts is denied, of a witness that signed a head last.
pub record IsDeniedOf (w : WitnessParts) (held : Head) (request : List ℕ) (why : Denial) : Type 0 where
  pub old : ℕ
  pub path : List Digest
  pub note : List ℕ
  pub read : IsAdding old path note request
  pub told : IsRejectedNote w old note why ⊎ ((stated : CheckpointParts) × IsOpened w.policy w.origin note stated
      × IsRejectedProof held old (head_of stated) path why)

-- Why a request is denied: the bytes are none, or it is denied by its parts.
abbrev pub IsDenied : WitnessParts → Head → List ℕ → Denial → Type 0
IsDenied w held request why = ((why ≡ Malformed) × IsNoAdding request) ⊎ IsDeniedOf w held request why

-- A request is of a checkpoint of this head, opened by the witness's policy, and these bytes are the line of its
-- cosignature at a time.
pub record IsVouchedLine (w : WitnessParts) (time : ℕ) (request : List ℕ) (head : Head) (line : List ℕ) : Type 0 where
  pub old : ℕ
  pub path : List Digest
  pub note : List ℕ
  pub stated : CheckpointParts
  pub read : IsAdding old path note request
  pub opened : IsOpened w.policy w.origin note stated
  pub head_is : head ≡ head_of stated
  pub signed : cosigned_line w.key time note ≡ Ok line

-- the line that a reply hands out, if it does
abbrev pub line_in : {E : Type 0} → Result Reply E → Option (List ℕ)
line_in (Ok (Signed line)) = Some line.items
line_in (Ok (Denied why)) = None
line_in (Err why) = None

-- A reply that denies is right about it.
abbrev pub IsDeniedReply : WitnessParts → Head → List ℕ → Reply → Type 0
IsDeniedReply w held request (Signed line) = Unit {0}
IsDeniedReply w held request (Denied why) = IsDenied w held request why

-- A note is opened as a witness asks, and this is the head that it states.
pub record IsStatedBy (w : WitnessParts) (note : List ℕ) (head : Head) : Type 0 where
  pub stated : CheckpointParts
  pub opened : IsOpened w.policy w.origin note stated
  pub head_is : head ≡ head_of stated

-- Why the note of a request is not opened.
abbrev pub IsUnopenedFor : WitnessParts → ℕ → List ℕ → Unprepared → Type 0
IsUnopenedFor w old note (Rejected why) = IsRejectedNote w old note why
IsUnopenedFor w old note (Failed fault) = fault ≡ Memory

-- A fault is a lack of memory, or that of the witness's line of a request's note.
abbrev pub IsLineFault : WitnessParts → ℕ → List ℕ → Fault → Type 0
IsLineFault w time request fault = (fault ≡ Memory) ⊎ ((old : ℕ) × (path : List Digest) × (note : List ℕ)
    × IsAdding old path note request × (cosigned_line w.key time note ≡ Err fault))

-- Why a request is not prepared, whatever head was signed last.
abbrev pub IsUnprepared : WitnessParts → ℕ → List ℕ → Unprepared → Type 0
IsUnprepared w time request (Rejected why) = (held : Head) → IsDenied w held request why
IsUnprepared w time request (Failed fault) = IsLineFault w time request fault

-- A request is of an origin: its note states a checkpoint of it, whoever signed it.
pub record IsOfOrigin (origin request : List ℕ) : Type 0 where
  pub old : ℕ
  pub path : List Digest
  pub note : List ℕ
  pub stated : CheckpointParts
  pub read : IsAdding old path note request
  pub states : unsigned_in note ≡ Ok stated
  pub origin_is : stated.origin ≡ origin

-- Why a request is of no origin: it is denied for this reason whoever the witness is and whatever it signed last; or
-- memory was refused.
abbrev pub IsOfNoOrigin : List ℕ → Unprepared → Type 0
IsOfNoOrigin request (Rejected why) = (w : WitnessParts) (held : Head) → IsDenied w held request why
IsOfNoOrigin request (Failed fault) = fault ≡ Memory

-- Why a request is of none of some logs: it is denied for this reason by a witness of each, whatever it signed last; or
-- memory was refused.
abbrev pub IsOfNoLog : List ListedParts → List ℕ → Unprepared → Type 0
IsOfNoLog logs request (Rejected why) = (log : ListedParts) (w : WitnessParts) (held : Head) → Contains logs log
    → w.origin ≡ log.origin → IsDenied w held request why
IsOfNoLog logs request (Failed fault) = fault ≡ Memory

-- No witness of an origin denies a request because its origin is unknown.
abbrev pub NeverUnknown : List ℕ → List ℕ → Type 0
NeverUnknown origin request = (w : WitnessParts) (held : Head) → w.origin ≡ origin
    → IsDenied w held request UnknownOrigin → ⊥

-- Why there is no reply.
abbrev pub IsUnanswered : {W : Type 0} → WitnessParts → ℕ → List ℕ → Unanswered W → Type 0
IsUnanswered w time request (Note fault) = IsLineFault w time request fault
IsUnanswered w time request (File refusal) = Unit {0}

-- No line was handed out, and no call on the file was refused.
abbrev pub IsUntouched : {W : Type 0} → Result Reply (Unanswered W) → Type 0
IsUntouched (Ok (Signed line)) = ⊥
IsUntouched (Ok (Denied why)) = Unit {0}
IsUntouched (Err (Note fault)) = Unit {0}
IsUntouched (Err (File refusal)) = ⊥

-- the bytes of a reply that states the size that was signed last
abbrev pub conflict_bytes : ℕ → List ℕ
conflict_bytes size = codes "Status: 409 Conflict\nContent-Type: text/x.tlog.size\n\n" ++ (decimal size ++ (10 ∷ []))

-- the bytes of a denial, as a program behind a web server writes them (RFC 3875, 6): a status and a type, an empty
-- line, and the body
abbrev pub denial_bytes : Denial → List ℕ
denial_bytes Malformed = codes "Status: 400 Bad Request\nContent-Type: text/plain\n\n"
denial_bytes Untrusted = codes "Status: 403 Forbidden\nContent-Type: text/plain\n\n"
denial_bytes UnknownOrigin = codes "Status: 404 Not Found\nContent-Type: text/plain\n\n"
denial_bytes (Conflict size) = conflict_bytes size
denial_bytes (Forked size) = conflict_bytes size
denial_bytes Unproved = codes "Status: 422 Unprocessable Entity\nContent-Type: text/plain\n\n"

-- the bytes of a reply
abbrev pub reply_bytes : Reply → List ℕ
reply_bytes (Signed line) = codes "Status: 200 OK\nContent-Type: text/plain\n\n" ++ line.items
reply_bytes (Denied why) = denial_bytes why
