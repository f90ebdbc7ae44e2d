-- The file of a log: a title, two slots for its size and its root, and its stored digests.
use Rattle.std.specs.Prelude.{◌≡◌, ℕ, ◌+◌, ◌-◌, ◌*◌, ◌/◌, ◌++◌, ◌&&◌, ◌||◌, nat_lt, List, [], length, take, drop, Bool, true, false, if◌then◌else◌, Option, Some, None, Ok, codes}
use Rattle.std.specs.Int.{w64, from_le_bytes, to_le_bytes}
use Rattle.std.specs.Simd.{first_chunks}
use Rattle.std.specs.Str.{bytes_eq}
use Rattle.sha2.specs.Sha256.{sha256}
use Rattle.ark_paths.specs.Pair.{Digest}
use Rattle.ark_trees.specs.Rfc6962.{node_of}
use Rattle.merkle_log.specs.Kept.{has_front, Keeps}
use Rattle.merkle_log.specs.Log.{merkle_tree_hash}
use Rattle.merkle_log.specs.Stored.{stored_count}

-- how the file of a log begins
abbrev pub title : List ℕ
title = codes "paxidore log, digests of SHA-256"

-- how a slot begins: a size in eight bytes, the least first, and the first 12 bytes of their SHA-256
abbrev pub slot_front : ℕ → List ℕ
slot_front size = to_le_bytes w64 size ++ take 12 (sha256 (to_le_bytes w64 size))

-- how a slot ends that states a root: the first 12 bytes of the SHA-256 of the size's bytes and the root
abbrev pub statement : ℕ → Digest → List ℕ
statement size root = take 12 (sha256 (to_le_bytes w64 size ++ root))

-- how a slot ends that states none, as older files have it: the next 12 bytes of the SHA-256 of the size's bytes
abbrev pub no_statement : ℕ → List ℕ
no_statement size = take 12 (drop 12 (sha256 (to_le_bytes w64 size)))

-- a slot of a size and its root
abbrev pub slot : ℕ → Digest → List ℕ
slot size root = slot_front size ++ statement size root

-- the number of the first eight bytes, the least first
abbrev pub first_word : List ℕ → ℕ
first_word bytes = from_le_bytes w64 (take 8 bytes)

-- the size that a slot has, where the slot is whole: where its first 20 bytes are
abbrev pub slot_size : List ℕ → Option ℕ
slot_size bytes =
    if bytes_eq (take 20 bytes) (slot_front (first_word bytes)) then Some (first_word bytes) else None

-- whether a slot has this size, and states this root of it, or none
abbrev pub slot_fits : List ℕ → ℕ → Digest → Bool
slot_fits bytes size root = bytes_eq (take 20 bytes) (slot_front size)
    && (bytes_eq (drop 20 bytes) (statement size root) || bytes_eq (drop 20 bytes) (no_statement size))

-- the larger of two slots' sizes, and whether the second slot takes the next size: the one that has another
abbrev pub larger : Option ℕ → Option ℕ → Option (ℕ × Bool)
larger None None = None
larger (Some size) None = Some (size, true)
larger None (Some size) = Some (size, false)
larger (Some size) (Some other) = if nat_lt size other then Some (other, false) else Some (size, true)

-- what the two slots of a head say, whatever the title: the larger size of those that are whole
abbrev pub slots_head : List ℕ → Option (ℕ × Bool)
slots_head file = larger (slot_size (take 32 (drop 32 file))) (slot_size (take 32 (drop 64 file)))

-- the size of the log of a file, and whether the second slot takes the next; none where the file is no log's
abbrev pub file_head : List ℕ → Option (ℕ × Bool)
file_head file =
    if nat_lt (length file) 96 then None
    else if bytes_eq (take 32 file) title then slots_head file
    else None

-- where the slot stands that takes the next size
abbrev pub next_slot : Bool → ℕ
next_slot second = if second then 64 else 32

-- where the slot stands that keeps the log, while the other one takes the next size
abbrev pub used_slot : Bool → ℕ
used_slot second = if second then 32 else 64

-- whether the second slot may take the next size, since the first one has this size and fits the root; else, whether
-- the first may; none where neither slot has this size and fits
abbrev pub slot_to_take : List ℕ → ℕ → Digest → Option Bool
slot_to_take file size root =
    if slot_fits (take 32 (drop 32 file)) size root then Some true
    else if slot_fits (take 32 (drop 64 file)) size root then Some false
    else None

-- how many digests stand behind the head of a file
abbrev pub digest_count : List ℕ → ℕ
digest_count file = (length file - 96) / 32

-- where the stored digests of a log of this size end
abbrev pub file_end : ℕ → ℕ
file_end size = 96 + 32 * stored_count size

-- the stored digests of a log of this size, which stand behind the head
abbrev pub stored_in : ℕ → List ℕ → List Digest
stored_in size file = first_chunks 32 (stored_count size) (drop 96 file)

-- a file with bytes written at a place
abbrev pub written : List ℕ → ℕ → List ℕ → List ℕ
written file place bytes = take place file ++ bytes ++ drop (place + length bytes) file

-- The file is that of a log with these leaf digests. One of its slots has its size, and states its root or none.
pub record IsLogFile (leaves : List Digest) (file : List ℕ) : Type 0 where
  pub second_is_next : Bool
  pub head : file_head file ≡ Some (length leaves, second_is_next)
  pub whole : has_front (length leaves) (digest_count file) ≡ true
  pub keeps : Keeps leaves (stored_in (length leaves) file)
  pub root : Digest
  pub root_is : merkle_tree_hash node_of (sha256 []) leaves ≡ Ok root
  pub second_is_free : Bool
  pub states : slot_to_take file (length leaves) root ≡ Some second_is_free
