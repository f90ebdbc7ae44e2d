use Rattle.std.proofs.Common.{◌≡◌, ◌+◌, ◌/◌, ◌<◌, ℕ, [], get_or}
use Rattle.log_tiles.specs.Audit.{roots_in, row_in, tile_at, IsWholeTile}
use Rattle.log_tiles.specs.Tiles.{row_length}
use Rattle.log_tiles.proofs.tiled.TileDisk.is_level_hashed.Given as goal

abbrev pub invariant-tiles : goal.invariant-tiles
invariant-tiles g l =
    let has = g.T.Tiles.has l.self.tiles in
    let size = l.self.size in
    record {
      whole : g.T.Tiles.Obeys l.self.tiles → (index : ℕ) → index < l.index
          → IsWholeTile has (tile_at size l.level index);
      roots : g.T.Tiles.Obeys l.self.tiles → (index : ℕ) → index < l.index → index < row_length l.level size / 256
          → get_or (row_in has size (l.level + 1)) index [] ≡ get_or (roots_in has size l.level) index [];
    }
