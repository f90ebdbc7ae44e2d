-- Receipts of entries: proofs as files, as C2SP's tlog-proof has them.
use Rattle.std.specs.Prelude.{◌≡◌, ◌⊎◌, ◌<◌, ◌≤◌, ◌^◌, ℕ, false, true, List, [], ◌∷◌, ◌++◌, length, Option, Some, None, IfSome, Ok, codes}
use Rattle.std.specs.Fmt.{decimal}
use Rattle.std.specs.List.{flat_map, AllByRecursion}
use Rattle.base64.specs.GeneralPurpose.{encode_of, IsBytes}
use Rattle.base64.specs.Engines.{standard}
use Rattle.ark_base.specs.Digits.{AreBytes}
use Rattle.ark_paths.specs.Pair.{Digest}
use Rattle.ark_trees.specs.Rfc6962.{entry_hash, node_of}
use Rattle.merkle_log.specs.Bind.{BindsDigest}
use Rattle.merkle_log.specs.Verdict.{inclusion_verdict}
use Rattle.signed_notes.specs.Checkpoints.{CheckpointParts}
use Rattle.log_checkpoints.specs.declared.receipts.ReceiptFault.{ReceiptFault}
use Rattle.log_checkpoints.specs.declared.receipts.ReceiptFault.TheVariants.{Spelling, Note}
use Rattle.signed_notes.specs.Opening.{IsClosed, IsOpened, Policy}
use Rattle.signed_notes.specs.declared.fault.Fault.{Fault}
use Rattle.signed_notes.specs.declared.fault.Fault.TheVariants.{Memory}

-- the line of a digest: its Base64
abbrev pub digest_line : Digest → List ℕ
digest_line digest = encode_of standard digest ++ (10 ∷ [])

-- a number, a line for each digest of a path, an empty line, and a note
abbrev pub numbered : ℕ → List Digest → List ℕ → List ℕ
numbered n path note = decimal n ++ (10 ∷ (flat_map digest_line path ++ (10 ∷ note)))

-- the line of further bytes, of which a log says what they mean: their Base64
abbrev pub extra_line : Option (List ℕ) → List ℕ
extra_line None = []
extra_line (Some extra) = codes "extra " ++ (encode_of standard extra ++ (10 ∷ []))

-- The bytes do not begin with these.
abbrev pub BeginsOtherwise : List ℕ → List ℕ → Type 0
BeginsOtherwise front bytes = (rest : List ℕ) → bytes ≡ front ++ rest → ⊥

-- The bytes are a line of further bytes, where they begin as one, and what stands behind it.
pub record IsBehindExtra (extra : Option (List ℕ)) (rest bytes : List ℕ) : Type 0 where
  pub extra_is : IfSome extra IsBytes
  pub spelled : bytes ≡ extra_line extra ++ rest
  pub none : extra ≡ None → BeginsOtherwise (codes "extra ") bytes

-- The bytes begin as a line of further bytes, and are none.
pub record HasBadExtra (bytes : List ℕ) : Type 0 where
  pub behind : List ℕ
  pub begins : bytes ≡ codes "extra " ++ behind
  pub bad : (extra rest : List ℕ) → IsBytes extra → bytes ≡ extra_line (Some extra) ++ rest → ⊥

-- A receipt: a title, a line of further bytes or none, the index in decimal, a line for each digest of the path, an
-- empty line, and the checkpoint's note.
abbrev pub receipt_of : Option (List ℕ) → ℕ → List Digest → List ℕ → List ℕ
receipt_of extra index path note =
    codes "c2sp.org/tlog-proof@v1\n" ++ (extra_line extra ++ (codes "index " ++ numbered index path note))

-- Digests of 32 bytes each, as many as a path may have.
abbrev pub IsPath : List Digest → Type 0
IsPath path = (length path ≤ 64) × AllByRecursion (AreBytes 32) path

-- The bytes are such a number, path and note.
pub record IsNumbered (n : ℕ) (path : List Digest) (note bytes : List ℕ) : Type 0 where
  pub fits : n < 2 ^ 64
  pub path_is : IsPath path
  pub spelled : bytes ≡ numbered n path note

-- The bytes are none.
abbrev pub AreNotNumbered : List ℕ → Type 0
AreNotNumbered bytes = (n : ℕ) (path : List Digest) (note : List ℕ) → IsNumbered n path note bytes → ⊥

-- The bytes are a receipt of these parts.
pub record IsReceipt (extra : Option (List ℕ)) (index : ℕ) (path : List Digest) (note bytes : List ℕ) : Type 0 where
  pub fits : index < 2 ^ 64
  pub extra_is : IfSome extra IsBytes
  pub path_is : IsPath path
  pub spelled : bytes ≡ receipt_of extra index path note

-- The bytes are a receipt of an entry at an index: it has a checkpoint of this size and root, which is signed as a
-- policy asks, and a path that is accepted for the entry at the index.
pub record IsReceiptOf (policy : Policy) (origin bytes entry : List ℕ) (index size : ℕ) (root : Digest) : Type 0 where
  pub extra : Option (List ℕ)
  pub path : List Digest
  pub note : List ℕ
  pub stated : CheckpointParts
  pub read : IsReceipt extra index path note bytes
  pub opened : IsOpened policy origin note stated
  pub size_is : stated.size ≡ size
  pub root_is : stated.root ≡ root
  pub accepted : inclusion_verdict node_of root size index (entry_hash entry) path ≡ Ok true

-- The bytes are a receipt whose index is this one, below a size, and in each log with this size and root the entry
-- stands there, or two pairs that differ and hash alike are named.
pub record ShowsEntry (bytes entry : List ℕ) (index size : ℕ) (root : Digest) : Type 0 where
  pub extra : Option (List ℕ)
  pub path : List Digest
  pub note : List ℕ
  pub read : IsReceipt extra index path note bytes
  pub inside : index < size
  pub bound : BindsDigest node_of root size index (entry_hash entry) path

-- The bytes are a receipt whose checkpoint is signed as a policy asks, and whose path does not lead from the entry to
-- its root.
pub record LeadsElsewhere (policy : Policy) (origin bytes entry : List ℕ) : Type 0 where
  pub index : ℕ
  pub extra : Option (List ℕ)
  pub path : List Digest
  pub note : List ℕ
  pub stated : CheckpointParts
  pub read : IsReceipt extra index path note bytes
  pub opened : IsOpened policy origin note stated
  pub refused : inclusion_verdict node_of stated.root stated.size index (entry_hash entry) path ≡ Ok false

-- The bytes are no lines of a path with an empty line behind them.
abbrev pub HaveNoPath : List ℕ → Type 0
HaveNoPath bytes = (path : List Digest) (note : List ℕ) → IsPath path
    → bytes ≡ flat_map digest_line path ++ (10 ∷ note) → ⊥

-- The bytes are no receipt.
abbrev pub IsNoReceipt : List ℕ → Type 0
IsNoReceipt bytes = (extra : Option (List ℕ)) (index : ℕ) (path : List Digest) (note : List ℕ)
    → IsReceipt extra index path note bytes → ⊥

-- A fault is a lack of memory, or this is so and it says that the spelling is wrong.
abbrev pub IsMisspelled : Type 0 → ReceiptFault → Type 0
IsMisspelled Wrong why = ((why ≡ Spelling) × Wrong) ⊎ (why ≡ Note Memory)

-- Why bytes are not read as a receipt: they are none, or memory was refused.
abbrev pub IsUnread : List ℕ → ReceiptFault → Type 0
IsUnread bytes why = IsMisspelled (IsNoReceipt bytes) why

-- The bytes are a receipt whose checkpoint is not accepted: it is not signed as a policy asks, or is none of an origin.
pub record IsUnsignedReceipt (policy : Policy) (origin bytes : List ℕ) (why : ReceiptFault) : Type 0 where
  pub index : ℕ
  pub extra : Option (List ℕ)
  pub path : List Digest
  pub note : List ℕ
  pub fault : Fault
  pub read : IsReceipt extra index path note bytes
  pub told : why ≡ Note fault
  pub closed : IsClosed policy origin note fault

-- Why a receipt is not accepted, whatever its entry.
abbrev pub IsUnaccepted : Policy → List ℕ → List ℕ → ReceiptFault → Type 0
IsUnaccepted policy origin bytes why = IsUnread bytes why ⊎ IsUnsignedReceipt policy origin bytes why
