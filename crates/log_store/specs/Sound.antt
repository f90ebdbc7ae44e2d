-- The stored digests of a log's file, and whether each of two others is their hash.
use Rattle.std.specs.Prelude.{◌≡◌, ◌<◌, ◌≤◌, ◌+◌, ◌*◌, ℕ, suc, List, length, take, drop}
use Rattle.ark_paths.specs.Pair.{Digest}
use Rattle.ark_trees.specs.Rfc6962.{node_hash}
use Rattle.merkle_log.specs.Kept.{Keeps}
use Rattle.merkle_log.specs.Stored.{position}
use Rattle.merkle_log.specs.Walk.{index_up}
use Rattle.log_file.specs.LogFile.{file_end, stored_in}

-- the digest of a place, some levels up
abbrev pub placed : List ℕ → ℕ → ℕ → Digest
placed file level place = take 32 (drop (96 + 32 * position level place) file)

-- The digest of a place above others is the hash of its two.
abbrev pub IsNode : List ℕ → ℕ → ℕ → Type 0
IsNode file level place =
    node_hash (placed file level (2 * place)) (placed file level (2 * place + 1)) ≡ placed file (suc level) place

-- So is each that the first entries complete.
abbrev pub AreNodes : List ℕ → ℕ → Type 0
AreNodes file size = (level place : ℕ) → place < index_up (suc level) size → IsNode file level place

-- Behind the head the stored digests of a log with these leaves stand.
pub record HasStored (leaves : List Digest) (file : List ℕ) : Type 0 where
  pub inside : file_end (length leaves) ≤ length file
  pub keeps : Keeps leaves (stored_in (length leaves) file)

-- The bytes begin with so many digests that stand in the file from a position on.
abbrev pub IsAhead : ℕ → ℕ → List ℕ → List ℕ → Type 0
IsAhead start count bytes file = take (32 * count) bytes ≡ take (32 * count) (drop (96 + 32 * start) file)
