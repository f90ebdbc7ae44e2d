-- What calls on maps answer, in the hashing of maps over SHA-256.
use Rattle.std.specs.Prelude.{◌≡◌, ◌⊎◌, ℕ, nat_lt, not, List, [], ◌∷◌, length, ℤ, pos, Bool, if◌then◌else◌, Option, Some, None, Result, Ok, Err, IfOk, IfSome, MatchResult, true}
use Rattle.ark_base.specs.declared.error.Error.{Error}
use Rattle.ark_base.specs.declared.error.Error.TheVariants.{OutOfMemory, IncorrectInputLength, NotPrimeOrder, GenericError, SerializationError as OfBytes}
use Rattle.ark_base.specs.Outcome.{Outcome, ◌>>=◌}
use Rattle.merkle_map.specs.Map.{Digest, Entry, Key, root_of_map}
use Rattle.merkle_map.specs.Bytes.{tree_of_bytes}
use Rattle.merkle_map.specs.Changes.{known_at}
use Rattle.merkle_map.specs.KeyProof.{ProofSeen, proof_at, proof_verdict}
use Rattle.merkle_map.specs.Order.{IsNextKnown}
use Rattle.merkle_map.specs.ProofBytes.{proof_bytes, proof_of_bytes}
use Rattle.merkle_map.specs.Sha256.{sha256_map}
use Rattle.merkle_map.specs.Transition.{ChangeSeen, Puts, Removes, changed_rows}
use Rattle.merkle_map.specs.Tree.{Shape, shape_digest, IsWhole, Shows}
use Rattle.merkle_map.specs.Whole.{entries_of}
use Rattle.paxidore_calls.specs.Answer.{only_if, refusal_code, refused_of}
use Rattle.paxidore_calls.specs.declared.refused.Refused.{Refused}
use Rattle.paxidore_calls.specs.declared.refused.Refused.TheVariants.{Memory, Height, Count, Room, Hidden, Other}

-- ---- refusals

-- A refusal of a call on maps. No hash refuses here, so an error with a name of its own says that a tree hides what the
-- call needs.
abbrev pub map_refused : Error → Refused
map_refused OutOfMemory = Memory
map_refused (OfBytes fault) = refused_of (OfBytes fault)
map_refused (IncorrectInputLength n) = Height
map_refused (GenericError refusal) = Hidden
map_refused NotPrimeOrder = Other

-- an outcome of a call on maps with the refusals for C
abbrev pub refusing_map : {A : Type 0} → Outcome A → Result A Refused
refusing_map (Ok value) = Ok value
refusing_map (Err error) = Err (map_refused error)

-- ---- proofs of one key

-- the proof that bytes are
abbrev pub key_proof_in : List ℕ → Outcome ProofSeen
key_proof_in bytes = proof_of_bytes sha256_map.nothing bytes

-- whether the bytes of a proof show that a map with this root has this at the key: a value, or nothing
abbrev pub key_verdict : Digest → Key → Option Digest → List ℕ → Outcome Bool
key_verdict root key value proof = key_proof_in proof >>= proof_verdict sha256_map root key value

-- ---- the entries of a tree from one key to another

-- The outcome is the first entry from one key to another of the tree that bytes are.
abbrev pub IsNextOf : List ℕ → Key → Key → Outcome (Option Entry) → Type 0
IsNextOf tree first last outcome = MatchResult (tree_of_bytes tree)
    (λ t. IsNextKnown true true 0 first last t outcome) (λ error. outcome ≡ Err error)

-- the code of an entry, of none, or of their refusal
abbrev pub next_code : Outcome (Option Entry) → ℤ
next_code (Ok None) = pos 1
next_code (Ok (Some entry)) = pos 0
next_code (Err error) = refusal_code (map_refused error)

-- A call gives the code of the outcome, or memory was refused.
abbrev pub GivesNext : List ℕ → Key → Key → ℤ → Type 0
GivesNext tree first last code = (code ≡ refusal_code Memory)
    ⊎ ((outcome : Outcome (Option Entry)) × IsNextOf tree first last outcome × (code ≡ next_code outcome))

-- ---- what is made of a tree's bytes

-- the digest of the tree that bytes are
abbrev pub map_root : List ℕ → Outcome Digest
map_root tree = tree_of_bytes tree >>= shape_digest sha256_map

-- the bytes of the proof of what the tree has at a key
abbrev pub map_proof : List ℕ → Key → Outcome (List ℕ)
map_proof tree key = tree_of_bytes tree >>= λ t. proof_at sha256_map 0 key t >>= proof_bytes sha256_map.nothing

-- The bytes are accepted as the proof of what the tree has at the key, under the tree's digest.
abbrev pub IsProvedBy : Key → List ℕ → Shape → Type 0
IsProvedBy key proof tree = (root : Digest) (value : Option Digest) → shape_digest sha256_map tree ≡ Ok root
    → known_at 0 key tree ≡ Ok value → key_verdict root key value proof ≡ Ok true

-- It is the root of each map that the tree shows.
abbrev pub IsRootOfAll : Digest → Shape → Type 0
IsRootOfAll root tree = (entries : List Entry) → Shows sha256_map 0 tree entries → root_of_map sha256_map entries
    ≡ Ok root

-- It is the root of the entries of a tree that hides nothing.
abbrev pub IsRootOfStore : Digest → Shape → Type 0
IsRootOfStore root tree = IsWhole tree → root_of_map sha256_map (entries_of tree) ≡ Ok root

-- ---- changes

-- changes by keys and values: the first keys get the values, in turn, and the keys behind them are removed
abbrev pub changes_of : List Key → List Digest → List ChangeSeen
changes_of [] values = []
changes_of (key ∷ keys) [] = Removes key ∷ changes_of keys []
changes_of (key ∷ keys) (value ∷ values) = Puts key value ∷ changes_of keys values

-- the new root and the rows of the new tree, if the tree that bytes are has the old root
abbrev pub tree_changed : Digest → List ℕ → List Key → List Digest → Outcome (Option (Digest × List ℕ))
tree_changed root tree keys values =
    tree_of_bytes tree >>= changed_rows sha256_map root (changes_of keys values)

-- the same where there are no more values than keys
abbrev pub map_changed : Digest → List ℕ → List Key → List Digest → Result (Option (Digest × List ℕ)) Refused
map_changed root tree keys values =
    only_if (not (nat_lt (length keys) (length values))) Count (refusing_map (tree_changed root tree keys values))

-- the code of rows for a buffer, of another root, or of their refusal
abbrev pub changed_code : Result (Option (Digest × List ℕ)) Refused → ℕ → ℤ
changed_code (Ok None) room = pos 1
changed_code (Ok (Some made)) room = if nat_lt room (length made.1) then refusal_code Room else pos 0
changed_code (Err refused) room = refusal_code refused

-- What a change made has this.
abbrev pub IfMade : {E : Type 0} → Result (Option (Digest × List ℕ)) E → (Digest × List ℕ → Type 0) → Type 0
IfMade outcome P = IfOk outcome (λ found. IfSome found P)
