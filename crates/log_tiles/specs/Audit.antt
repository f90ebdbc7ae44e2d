-- What an audit says of the tiles of a log.
use Rattle.std.specs.Prelude.{◌≡◌, ℕ, zero, suc, ◌+◌, ◌*◌, ◌/◌, ◌%◌, ◌^◌, ◌<◌, List, [], length, map, get_or, Ok, Option, Some, None}
use Rattle.std.specs.List.{range_with_len}
use Rattle.sha2.specs.Sha256.{sha256}
use Rattle.ark_paths.specs.Pair.{Digest}
use Rattle.ark_trees.specs.Rfc6962.{node_hash, node_of}
use Rattle.merkle_log.specs.Frontier.{complete_pairs}
use Rattle.merkle_log.specs.Log.{merkle_tree_hash}
use Rattle.log_tiles.specs.Tiles.{row_length, tile_in, width_in, IsTileOf}
use Rattle.log_tiles.specs.declared.tile.Tile.{Tile}

-- the tiles of a log, its size and its root
pub record TiledValue (T : Type 0) : Type 0 where
  pub tiles : T
  pub size : ℕ
  pub root : Digest

-- A tile has as many digests as it is asked for.
abbrev pub IsWholeTile : (Tile → List Digest) → Tile → Type 0
IsWholeTile has tile = length (has tile) ≡ tile.width

-- the rows of the tree of a list of leaf digests: the list, and above it those over the hashes of its pairs
abbrev pub rows_over : List Digest → ℕ → List Digest
rows_over leaves zero = leaves
rows_over leaves (suc level) = rows_over (complete_pairs node_hash leaves) level

-- The tiles of a log of this size have the digests of the tree of one list, whose Merkle tree hash is the root.
pub record AreTilesOf (has : Tile → List Digest) (size : ℕ) (root : Digest) : Type 0 where
  pub leaves : List Digest
  pub count : length leaves ≡ size
  pub root_is : merkle_tree_hash node_of (sha256 []) leaves ≡ Ok root
  pub tiles : (tile : Tile) → IsTileOf size tile → has tile ≡ tile_in (rows_over leaves) tile

-- ---- what it finds on its way

-- the tile at an index of a level, in a log of this size
abbrev pub tile_at : ℕ → ℕ → ℕ → Tile
tile_at size level index = record { level = level; index = index; width = width_in size level index }

-- the digests that the tiles of a level have, from left to right
abbrev pub row_in : (Tile → List Digest) → ℕ → ℕ → List Digest
row_in has size level =
    map (λ place. get_or (has (tile_at size level (place / 256))) (place % 256) [])
    (range_with_len 0 (row_length level size))

-- Each level of tiles has the digests of every eighth row of the tree of a list.
abbrev pub AreRowsOf : (Tile → List Digest) → ℕ → List Digest → Type 0
AreRowsOf has size leaves = (level : ℕ) → row_in has size level ≡ rows_over leaves (8 * level)

-- the roots of the full tiles of a level
abbrev pub roots_in : (Tile → List Digest) → ℕ → ℕ → List Digest
roots_in has size level = rows_over (row_in has size level) 8

-- The digests of the next level of tiles are the roots of the full tiles of this one.
abbrev pub AreRoots : (Tile → List Digest) → ℕ → ℕ → Type 0
AreRoots has size level = row_in has size (level + 1) ≡ roots_in has size level

-- All full tiles of a level have as many digests.
abbrev pub AreWholeTiles : (Tile → List Digest) → ℕ → ℕ → Type 0
AreWholeTiles has size level = (index : ℕ) → index < row_length level size / 256
    → IsWholeTile has (tile_at size level index)

-- the tile that has the digest of a complete place, or those of which it is the root
abbrev pub tile_of : ℕ → ℕ → ℕ → Tile
tile_of size level place = tile_at size (level / 8) (place * 2 ^ (level % 8) / 256)

-- the digest of a complete subtree and of what stands behind it, if something does
abbrev pub with_rest : Digest → Option Digest → Digest
with_rest peak None = peak
with_rest peak (Some last) = node_hash peak last
