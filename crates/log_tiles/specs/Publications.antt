-- What is written of a log to a folder of tiles.
use Rattle.std.specs.Prelude.{◌≡◌, ℕ, List, Contains}
use Rattle.std.specs.List.{flat_map}
use Rattle.ark_paths.specs.Pair.{Digest}
use Rattle.log_file.specs.declared.fault.Fault.TheVariants.{Index}
use Rattle.log_store.specs.declared.stop.Stop.TheVariants.{Disk, Fault}
use Rattle.log_tiles.specs.Tiles.{tile_in}
use Rattle.log_tiles.specs.declared.folder.FileName.{FileName}
use Rattle.log_tiles.specs.declared.folder.FileName.TheVariants.{OfTile}
use Rattle.log_tiles.specs.declared.publication.Unwritten.{Unwritten}
use Rattle.log_tiles.specs.declared.publication.Unwritten.TheVariants.{Folder, Log}
use Rattle.log_tiles.specs.declared.tile.Tile.{Tile}

-- the bytes of a tile's file: its digests, one behind the other
abbrev pub tile_bytes : (ℕ → List Digest) → Tile → List ℕ
tile_bytes rows tile = flat_map (λ digest. digest) (tile_in rows tile)

-- The file of a tile was written, with its digests.
abbrev pub IsTileWritten : (ℕ → List Digest) → (FileName → List ℕ → Type 0) → Tile → Type 0
IsTileWritten rows written tile = written (OfTile tile) (tile_bytes rows tile)

-- Where a name is that of one of these tiles the bytes are the tile's.
abbrev pub IsNoOther : (ℕ → List Digest) → List Tile → FileName → List ℕ → Type 0
IsNoOther rows tiles name bytes =
    (tile : Tile) → Contains tiles tile → name ≡ OfTile tile → bytes ≡ tile_bytes rows tile

-- Why tiles were not written: one is no tile of the log, or its disk or the folder refused a call.
abbrev pub AreUnwritten : {R W : Type 0} → Unwritten R W → Type 0
AreUnwritten (Log (Fault fault)) = fault ≡ Index
AreUnwritten (Log (Disk refusal)) = Unit {0}
AreUnwritten (Folder refusal) = Unit {0}
