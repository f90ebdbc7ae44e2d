-- The file that a log would have whose digests lie in tiles.
use Rattle.std.specs.Prelude.{◌≡◌, ℕ, zero, suc, ◌+◌, ◌-◌, ◌/◌, ◌%◌, ◌<◌, List, [], ◌++◌, length, map, get_or}
use Rattle.std.specs.List.{flat_map, range_with_len}
use Rattle.ark_base.specs.Digits.{itself}
use Rattle.ark_paths.specs.Pair.{Digest}
use Rattle.merkle_log.specs.Stored.{stored_count}
use Rattle.merkle_log.specs.Walk.{index_up}
use Rattle.log_file.specs.LogFile.{slot, title}
use Rattle.log_tiles.specs.Audit.{row_in, rows_over}
use Rattle.log_tiles.specs.Tiles.{IsTileOf}
use Rattle.log_tiles.specs.declared.tile.Tile.{Tile}

-- Each tile of a log of this size has as many digests as it is asked for, of 32 bytes each.
abbrev pub HaveDigests : (Tile → List Digest) → ℕ → Type 0
HaveDigests has size =
    (tile : Tile) (place : ℕ) → IsTileOf size tile → place < tile.width → length (get_or (has tile) place []) ≡ 32

-- the digests of the places that a leaf completes, from below up
abbrev pub completed_with : (ℕ → List Digest) → ℕ → List Digest
completed_with rows leaf = map (λ level. get_or (rows level) (index_up level leaf) [])
    (range_with_len 0 (stored_count (leaf + 1) - stored_count leaf))

-- the digests of all places that so many leaves complete, in the order in which they are completed
abbrev pub stored_of : (ℕ → List Digest) → ℕ → List Digest
stored_of rows zero = []
stored_of rows (suc leaf) = stored_of rows leaf ++ completed_with rows leaf

-- a row of a log's tree by its tiles: every eighth row as they have it, and those above by hashing its pairs
abbrev pub tiled_row : (Tile → List Digest) → ℕ → ℕ → List Digest
tiled_row has size level = rows_over (row_in has size (level / 8)) (level % 8)

-- the stored digests of a log by its tiles
abbrev pub tiled_digests : (Tile → List Digest) → ℕ → List Digest
tiled_digests has size = stored_of (tiled_row has size) size

-- the file of that log: a head with its size and root, and the stored digests behind it, one behind the other
abbrev pub tiled_file : (Tile → List Digest) → ℕ → Digest → List ℕ
tiled_file has size root =
    title ++ (slot size root ++ slot size root) ++ flat_map itself (tiled_digests has size)
