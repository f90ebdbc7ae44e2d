-- What a call answers: 0 is the only yes, 1 says no, and each code below 0 is a refusal.
use Rattle.std.specs.Prelude.{◌≡◌, ◌≢◌, ◌==◌, ◌⊎◌, ℕ, List, ◌++◌, length, drop, map, nat_lt, ℤ, pos, negsuc, Bool, true, false, ◌&&◌, if◌then◌else◌, Option, Some, None, Result, Ok, Err, IfOk, MatchResult}
use Rattle.std.specs.List.{list_all}
use Rattle.ark_base.specs.declared.error.Error.{Error}
use Rattle.ark_base.specs.declared.error.Error.TheVariants.{OutOfMemory, IncorrectInputLength, NotPrimeOrder, GenericError, SerializationError as OfBytes}
use Rattle.ark_base.specs.declared.error.SerializationError.TheVariants.{Truncated as CutShort, InvalidData}
use Rattle.ark_base.specs.Outcome.{Outcome, ◌>>=◌}
use Rattle.ark_paths.specs.Index.{is_tree_size}
use Rattle.ark_paths.specs.Pair.{Digest}
use Rattle.ark_paths.specs.Received.{received_verdict, received_multi_verdict}
use Rattle.ark_paths.specs.Tree.{path_in}
use Rattle.ark_merkle.specs.MultiProof.{multi_path_in}
pub use Rattle.log_file.specs.Faults.{only_if}
use Rattle.paxidore_calls.specs.declared.refused.Refused.{Refused}
use Rattle.paxidore_calls.specs.declared.refused.Refused.TheVariants.{Memory, Truncated, Invalid, Height, Size, Lengths, Count, Index, Room, Hidden, NoPolicy, BadSignature, Unsigned, OtherOrigin, Other}
use Rattle.paxidore_calls.specs.Cut.{parts_by}
use Rattle.paxidore_calls.specs.Hashing.{Hashing, sha256_hashing, rfc6962_hashing, hashes_of, tree_over, bytes_of_path, read_path, bytes_of_multi_path, read_multi_path}

-- ---- refusals and their codes

-- the code below 0 of a refusal
abbrev pub refusal_code : Refused → ℤ
refusal_code Memory = negsuc 0
refusal_code Truncated = negsuc 1
refusal_code Invalid = negsuc 2
refusal_code Height = negsuc 3
refusal_code Size = negsuc 4
refusal_code Lengths = negsuc 5
refusal_code Count = negsuc 6
refusal_code Index = negsuc 7
refusal_code Room = negsuc 8
refusal_code Hidden = negsuc 14
refusal_code NoPolicy = negsuc 15
refusal_code BadSignature = negsuc 16
refusal_code Unsigned = negsuc 17
refusal_code OtherOrigin = negsuc 18
refusal_code Other = negsuc 98

-- a refusal of the library, where the size of the tree is one
abbrev pub refused_of : Error → Refused
refused_of OutOfMemory = Memory
refused_of (OfBytes CutShort) = Truncated
refused_of (OfBytes InvalidData) = Invalid
refused_of (IncorrectInputLength n) = Height
refused_of (GenericError refusal) = Other
refused_of NotPrimeOrder = Other

-- an outcome of the library with the refusals for C
abbrev pub refusing : {A : Type 0} → Outcome A → Result A Refused
refusing (Ok value) = Ok value
refusing (Err error) = Err (refused_of error)

-- the code of what a proof says: 0 yes, 1 no, or that of its refusal
abbrev pub verdict_code : Result Bool Refused → ℤ
verdict_code (Ok true) = pos 0
verdict_code (Ok false) = pos 1
verdict_code (Err refused) = refusal_code refused

-- the code of a call that does something: 0, or that of its refusal
abbrev pub done_code : {A : Type 0} → Result A Refused → ℤ
done_code (Ok value) = pos 0
done_code (Err refused) = refusal_code refused

-- The call answers this code, or that of refused memory.
abbrev pub GivesCode : ℤ → ℤ → Type 0
GivesCode code result = (result ≡ code) ⊎ (result ≡ refusal_code Memory)

-- The call gives the outcome, its value seen by view, or memory was refused.
abbrev pub CallGivesBy : {A B : Type 0} → (A → B) → Result B Refused → Result A Refused → Type 0
CallGivesBy view outcome result =
    MatchResult result (λ value. outcome ≡ Ok (view value)) (λ refused. (refused ≡ Memory) ⊎ (outcome ≡ Err refused))

-- the leaves that bytes and lengths are
abbrev pub leaves_in : Option (List (List ℕ)) → Result (List (List ℕ)) Refused
leaves_in None = Err Lengths
leaves_in (Some leaves) = Ok leaves

-- ---- hashings by number

-- the hashing that a number names: 1 is SHA-256 as it is, 2 that of RFC 6962; no other number names one
abbrev pub hashing_of : ℕ → Result Hashing Refused
hashing_of number =
    if number == 1 then Ok sha256_hashing
    else if number == 2 then Ok rfc6962_hashing
    else Err Invalid

-- what is said in the hashing that a number names
abbrev pub in_hashing : {A : Type 0} → ℕ → (Hashing → Result A Refused) → Result A Refused
in_hashing number outcome = do
  h ← hashing_of number
  outcome h

-- ---- what is shown

-- whether the bytes of a path show a leaf at an index of a tree with this root and size
abbrev pub shown : Hashing → Digest → ℕ → ℕ → List ℕ → List ℕ → Result Bool Refused
shown h root size index leaf path = only_if (is_tree_size size) Size (only_if (nat_lt index size) Index
    (refusing (received_verdict (hashes_of h) root size index leaf (read_path path))))

-- the leaves for as many indexes of such a tree
abbrev pub leaves_for : ℕ → ℕ → List ℕ → List ℕ → Result (List (List ℕ)) Refused
leaves_for size count leaves lengths = only_if (is_tree_size size) Size
    (only_if (length lengths == count) Count (leaves_in (parts_by leaves lengths)))

-- whether all indexes are of leaves, and there is one
abbrev pub are_indexes : ℕ → List ℕ → Bool
are_indexes size indexes = nat_lt 0 (length indexes) && list_all (λ i. nat_lt i size) indexes

-- whether the bytes of a strict multi-proof show leaves, one for each of some indexes
abbrev pub all_shown : Hashing → Digest → ℕ → List ℕ → List ℕ → List ℕ → List ℕ → Result Bool Refused
all_shown h root size indexes leaves lengths proof = do
  xs ← leaves_for size (length indexes) leaves lengths
  only_if (are_indexes size indexes) Index
      (refusing (received_multi_verdict (hashes_of h) root size indexes xs (read_multi_path proof)))

-- ---- what is made of leaves

-- those of a tree, which has a power of two above one of them
abbrev pub tree_leaves_in : List ℕ → List ℕ → Result (List (List ℕ)) Refused
tree_leaves_in leaves lengths = only_if (is_tree_size (length lengths)) Size (leaves_in (parts_by leaves lengths))

-- what is made of each item
abbrev pub results_of : {A B : Type 0} → (A → B) → Result (List A) Refused → Result (List B) Refused
results_of made (Ok items) = Ok (map made items)
results_of made (Err refused) = Err refused

-- ---- what is made of trees

-- the bytes of the path of an index in the tree above some leaves
abbrev pub path_of_leaves : Hashing → List ℕ → List ℕ → ℕ → Result (List ℕ) Refused
path_of_leaves h leaves lengths index = do
  xs ← tree_leaves_in leaves lengths
  only_if (nat_lt index (length xs)) Index (Ok (bytes_of_path (path_in (tree_over h xs) index)))

-- the bytes of the multi-proof of some indexes, of which there is one at least
abbrev pub multi_path_of_leaves : Hashing → List ℕ → List ℕ → List ℕ → Result (List ℕ) Refused
multi_path_of_leaves h leaves lengths indexes = do
  xs ← tree_leaves_in leaves lengths
  only_if (are_indexes (length xs) indexes) Index (Ok (bytes_of_multi_path (multi_path_in (tree_over h xs) indexes)))

-- the code of bytes for a buffer, or of their refusal
abbrev pub written_code : Result (List ℕ) Refused → ℕ → ℤ
written_code (Ok bytes) room = if nat_lt room (length bytes) then refusal_code Room else pos 0
written_code (Err refused) room = refusal_code refused

-- What a call does to the caller's buffer and count, where it has these bytes for them or refuses.
pub record Hands (outcome : Result (List ℕ) Refused) (before after : List ℕ) (count_before count_after : ℕ)
    (code : ℤ) : Type 0 where
  pub right_code : GivesCode (written_code outcome (length before)) code
  -- the bytes stand in front, and behind them all is as before
  pub written : code ≡ pos 0 → IfOk outcome (λ bytes. after ≡ bytes ++ drop (length bytes) before)
  pub counted : code ≡ pos 0 → IfOk outcome (λ bytes. count_after ≡ length bytes)
  -- a buffer that is too short stays as it was, and the count is the one that it needs
  pub room_needed : code ≡ refusal_code Room → IfOk outcome (λ bytes. count_after ≡ length bytes)
  pub kept : code ≢ pos 0 → after ≡ before
  pub uncounted : code ≢ pos 0 → code ≢ refusal_code Room → count_after ≡ count_before
