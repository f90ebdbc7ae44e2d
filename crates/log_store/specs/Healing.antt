-- A log's file whose slots lie in different sectors, of which one is lost and is written again.
use Rattle.std.specs.Prelude.{◌≡◌, ◌≢◌, ◌⊎◌, ◌<◌, ◌≤◌, ◌+◌, ◌*◌, ◌^◌, ℕ, Bool, true, false, List, [], length, take, drop, get_or, Ok}
use Rattle.std.specs.Simd.{first_chunks}
use Rattle.sha2.specs.Sha256.{sha256}
use Rattle.ark_paths.specs.Pair.{Digest}
use Rattle.ark_trees.specs.Rfc6962.{node_of}
use Rattle.merkle_log.specs.Kept.{Keeps}
use Rattle.merkle_log.specs.Log.{merkle_tree_hash}
use Rattle.merkle_log.specs.Stored.{stored_count}
use Rattle.log_file.specs.LogFile.{slot_fits, title, IsLogFile}
use Rattle.log_store.specs.Sectors.{laid, layout_in, sector_title}
use Rattle.log_store.specs.Store.{SaysLarger}
use Rattle.log_store.specs.declared.sectors.Layout.{Layout}
use Rattle.log_store.specs.declared.sectors.Layout.TheVariants.{Apart, Dense, FirstAlone, SecondAlone}

-- Both sectors have their title, and the same slot.
pub record AreAlike (file : List ℕ) : Type 0 where
  pub begins : take 32 file ≡ sector_title
  pub same : take 64 (drop 4096 file) ≡ take 64 file

-- At some byte the title of older files is neither that of files with sectors nor what stands there: no mixture of
-- these two is that title.
abbrev pub IsNotOlder : List ℕ → Type 0
IsNotOlder file = (i : ℕ) × (i < 32) × (get_or title i 0 ≢ get_or sector_title i 0)
    × (get_or title i 0 ≢ get_or file i 0)

-- The file is read as that of the log, or a slot says a larger size.
abbrev pub IsReadAs : List Digest → List ℕ → Type 0
IsReadAs leaves file = IsLogFile leaves (laid (layout_in file) file)
    ⊎ SaysLarger (length leaves) (length leaves) (laid (layout_in file) file)

-- where the digests of a log of this size end in a file with sectors
abbrev pub sectors_end : ℕ → ℕ
sectors_end size = 8192 + 32 * stored_count size

-- A crash leaves the sectors and the digests of a log of this size as they are in this file.
abbrev pub IsDurableApart : ℕ → List ℕ → (List ℕ → Type 0) → Type 0
IsDurableApart size file may_leave =
    (left : List ℕ) → may_leave left → take (sectors_end size) left ≡ take (sectors_end size) file

-- The slot stands in the first sector, behind its title; or in the second one, and the first one is of no older file.
abbrev pub StandsIn : List ℕ → Bool → List ℕ → Type 0
StandsIn slot true file = (take 32 file ≡ sector_title) × (take 32 (drop 32 file) ≡ slot)
StandsIn slot false file = (take 32 (drop 4128 file) ≡ slot) × IsNotOlder file

-- The file has the digests of a log, and one of its sectors a slot that has the log's size and fits its root.
pub record KeepsIn (slot : List ℕ) (first : Bool) (leaves : List Digest) (file : List ℕ) : Type 0 where
  pub stands : StandsIn slot first file
  pub root : Digest
  pub root_is : merkle_tree_hash node_of (sha256 []) leaves ≡ Ok root
  pub fits : slot_fits slot (length leaves) root ≡ true
  pub small : length leaves < 2 ^ 63
  pub inside : sectors_end (length leaves) ≤ length file
  pub keeps : Keeps leaves (first_chunks 32 (stored_count (length leaves)) (drop 8192 file))

-- The sector of this slot is read: the first one, or else the second one.
abbrev pub IsReadIn : Layout → Bool → Type 0
IsReadIn Dense first = Unit {0}
IsReadIn Apart first = Unit {0}
IsReadIn FirstAlone true = Unit {0}
IsReadIn FirstAlone false = ⊥
IsReadIn SecondAlone true = ⊥
IsReadIn SecondAlone false = Unit {0}
