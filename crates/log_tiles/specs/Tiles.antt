-- The tiles of a log, as C2SP's tlog-tiles has them: 256 digests of a level at a time, of every eighth level of the
-- log's tree.
use Rattle.std.specs.Prelude.{◌≡◌, ℕ, ◌-◌, ◌*◌, ◌/◌, ◌^◌, ◌<◌, min, List, take, drop, Result, Ok, Err}
use Rattle.ark_paths.specs.Pair.{Digest}
use Rattle.merkle_log.specs.Kept.{front}
use Rattle.merkle_log.specs.Stored.{row_at}
use Rattle.log_file.specs.LogFile.{stored_in}
use Rattle.log_file.specs.declared.fault.Fault.TheVariants.{Index}
use Rattle.log_store.specs.declared.stop.Stop.{Stop}
use Rattle.log_store.specs.declared.stop.Stop.TheVariants.{Fault, Disk}
use Rattle.log_tiles.specs.declared.tile.Tile.{Tile}

-- how many digests a level of tiles has in a log of this size: its complete subtrees of 256^level entries
abbrev pub row_length : ℕ → ℕ → ℕ
row_length level size = size / 2 ^ (8 * level)

-- how many digests the tile at an index has in a log of this size: 256, or as many as there are from there on
abbrev pub width_in : ℕ → ℕ → ℕ → ℕ
width_in size level index = min 256 (row_length level size - 256 * index)

-- The tile is one of a log of this size: it has a digest, and as many as there are.
abbrev pub IsTileOf : ℕ → Tile → Type 0
IsTileOf size tile = (0 < tile.width) × (tile.width ≡ width_in size tile.level tile.index)

-- The only fault is that the log has no such tile.
abbrev pub IsUntiled : {A R : Type 0} → Result A (Stop R) → Type 0
IsUntiled (Ok value) = Unit {0}
IsUntiled (Err (Fault fault)) = fault ≡ Index
IsUntiled (Err (Disk refusal)) = Unit {0}

-- The tile is one of a level of the new log, and none of the old one.
abbrev pub IsNewTile : ℕ → ℕ → ℕ → Tile → Type 0
IsNewTile old_size size level tile =
    (tile.level ≡ level) × (IsTileOf size tile × (IsTileOf old_size tile → ⊥))

-- the digests of a tile, in the rows of a log's tree
abbrev pub tile_in : (ℕ → List Digest) → Tile → List Digest
tile_in rows tile = take tile.width (drop (256 * tile.index) (rows (8 * tile.level)))

-- the rows of the tree of a log of this size whose stored digests a file has
abbrev pub rows_in : ℕ → List ℕ → ℕ → List Digest
rows_in size file = row_at (front size (stored_in size file))
