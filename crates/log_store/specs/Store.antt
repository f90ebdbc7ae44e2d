-- What a log's file is after an append that was cut short, and after one that returned.
use Rattle.std.specs.Prelude.{◌≡◌, ◌≢◌, ◌⊎◌, ◌<◌, ◌≤◌, ◌+◌, ◌*◌, ◌^◌, ℕ, Bool, List, [], ◌++◌, length, take, drop, get_or, replicate, Some}
use Rattle.sha2.specs.Sha256.{sha256}
use Rattle.ark_paths.specs.Pair.{Digest}
use Rattle.merkle_log.specs.Stored.{stored_count}
use Rattle.log_file.specs.Append.{HasBehind}
use Rattle.log_file.specs.LogFile.{file_end, file_head, next_slot, slot, slot_front, stored_in, title, written, IsLogFile}
use Rattle.log_store.specs.Disk.{IsMixed, Torn}

-- the head of a log of no entries
abbrev pub new_head : List ℕ
new_head = title ++ (slot 0 (sha256 []) ++ slot 0 (sha256 []))

-- The file has no more than a part of a head: no byte behind it, and each byte is that of the head or zero.
pub record IsPartOf (head file : List ℕ) : Type 0 where
  pub short : length file ≤ length head
  pub bytes : (n : ℕ) → n < length file → (get_or file n 0 ≡ get_or head n 0) ⊎ (get_or file n 0 ≡ 0)

-- A head was being written, one slot after the other: the title and the first slot were cut short, or these stand
-- there and the second slot was cut short.
abbrev pub TornInTurn : List ℕ → List ℕ → List ℕ → Type 0
TornInTurn head old left = Torn 0 (take 64 head) old left
    ⊎ Torn 64 (take 32 (drop 64 head)) (written old 0 (take 64 head)) left

-- A crash leaves a file that has no byte.
abbrev pub IsEmpty : (List ℕ → Type 0) → Type 0
IsEmpty may_leave = (left : List ℕ) → may_leave left → left ≡ []

-- A crash leaves just this file.
abbrev pub LeavesJust : List ℕ → (List ℕ → Type 0) → Type 0
LeavesJust file may_leave = (left : List ℕ) → may_leave left → left ≡ file

-- So it does once what is fresh is on the disk.
abbrev pub IsAllFresh : (ℕ → List ℕ → Type 0) → (List ℕ → Type 0) → List ℕ → Type 0
IsAllFresh fresh may_leave file = (left : List ℕ) → may_leave left
    → ((at : ℕ) (bytes : List ℕ) → at + length bytes ≤ length file → fresh at bytes
    → take (length bytes) (drop at left) ≡ bytes) → left ≡ file

-- The file has no byte, or no more than zeros in the place of the head.
abbrev pub IsNewFile : List ℕ → Type 0
IsNewFile file = (file ≡ []) ⊎ (file ≡ replicate 96 0)

-- In the place of the head the file has zeros or no byte.
abbrev pub IsHeadless : List ℕ → Type 0
IsHeadless file = (i : ℕ) → i < 96 → get_or file i 0 ≡ 0

-- Up to where the digests of a log of this size end, a file is as another.
abbrev pub BeginsAs : ℕ → List ℕ → List ℕ → Type 0
BeginsAs size file left = take (file_end size) left ≡ take (file_end size) file

-- The log of this size is durable: a crash leaves its head and its digests as they are in this file.
abbrev pub IsDurable : ℕ → List ℕ → (List ℕ → Type 0) → Type 0
IsDurable size file may_leave = (left : List ℕ) → may_leave left → BeginsAs size file left

-- Behind the head the digests of a log of this size are as in another file.
abbrev pub HasDigestsOf : ℕ → List ℕ → List ℕ → Type 0
HasDigestsOf size file left =
    take (32 * stored_count size) (drop 96 left) ≡ take (32 * stored_count size) (drop 96 file)

-- A crash leaves the digests of a log of this size as they are in this file, whatever it leaves of the head.
abbrev pub IsDurableBehind : ℕ → List ℕ → (List ℕ → Type 0) → Type 0
IsDurableBehind size file may_leave = (left : List ℕ) → may_leave left → HasDigestsOf size file left

-- A whole slot says a size larger than the log's that is not the new one. Where nobody wrote it, that takes a
-- coincidence of 12 bytes of SHA-256.
abbrev pub SaysLarger : ℕ → ℕ → List ℕ → Type 0
SaysLarger size new file =
    (other : ℕ) × (second : Bool) × (file_head file ≡ Some (other, second)) × (size < other) × (other ≢ new)

-- A slot says such a size by chance: the front of each of the two has at each byte what stood in the file, or that of
-- the new size.
pub record IsForged (size new : ℕ) (file left : List ℕ) : Type 0 where
  pub says : SaysLarger size new left
  pub mixed : (second : Bool)
      → IsMixed (take 20 (drop (next_slot second) file)) (slot_front new) (take 20 (drop (next_slot second) left))

-- The file is that of the log as it was, or with the new leaves; or a slot is forged.
abbrev pub IsBeforeOrAfter : List Digest → List Digest → List ℕ → List ℕ → Type 0
IsBeforeOrAfter leaves more file left = IsLogFile leaves left ⊎ IsLogFile (leaves ++ more) left
    ⊎ IsForged (length leaves) (length (leaves ++ more)) file left

-- Whatever bytes stand in the place of this slot, the file is that of the log, or they say a larger size.
abbrev pub IsWithout : List Digest → Bool → List ℕ → Type 0
IsWithout leaves second file = (part : List ℕ) → length part ≡ 32
    → IsLogFile leaves (written file (next_slot second) part)
    ⊎ SaysLarger (length leaves) (length leaves) (written file (next_slot second) part)

-- One of the two slots may be lost: the other one has the log.
abbrev pub HasSpare : List Digest → List ℕ → Type 0
HasSpare leaves file = (second : Bool) × IsWithout leaves second file

-- An append to a file may be under way: the digests of the log are there, and the file is that of the log as it was, or
-- with the new leaves; or a slot is forged.
pub record IsMidAppend (leaves more : List Digest) (file left : List ℕ) : Type 0 where
  pub log : IsBeforeOrAfter leaves more file left
  pub digests : HasDigestsOf (length leaves) file left
  -- the slot that is being written may be lost: the other one has the log as it was, or with the new leaves
  pub lost : HasSpare leaves left ⊎ HasSpare (leaves ++ more) left

-- The file is that of a log, whose second slot takes the next size or not, and the bytes are those of the digests that
-- more leaves add to it.
pub record IsGrowth (leaves more : List Digest) (file bytes : List ℕ) (second : Bool) : Type 0 where
  pub log : IsLogFile leaves file
  pub free : log.second_is_free ≡ second
  pub behind : HasBehind leaves (stored_in (length leaves) file) more bytes
  pub fits : length (leaves ++ more) < 2 ^ 63
  pub some : 0 < length more

-- The file is that of a log, and stays it whatever bytes stand in the place of one of its two slots.
pub record IsSettled (leaves : List Digest) (file : List ℕ) : Type 0 where
  pub log : IsLogFile leaves file
  pub lost : (second : Bool) → IsWithout leaves second file

-- A crash leaves what is read, up to where the digests end: the file of the log, also where one of its slots is lost.
abbrev pub IsDurableLog : List Digest → List ℕ → (List ℕ → Type 0) → Type 0
IsDurableLog leaves file may_leave =
    (left : List ℕ) → may_leave left → BeginsAs (length leaves) file left × IsSettled leaves left

-- Of each of two logs, where it is read, a crash leaves the digests.
abbrev pub AreDurableBehind : List Digest → List Digest → List ℕ → (List ℕ → Type 0) → Type 0
AreDurableBehind leaves more file may_leave = (log : List Digest) → (log ≡ leaves) ⊎ (log ≡ leaves ++ more)
    → IsLogFile log file → IsDurableBehind (length log) file may_leave
