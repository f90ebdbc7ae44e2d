use Rattle.std.proofs.Common.{◌<◌, ℕ}
use Rattle.log_tiles.specs.Audit.{AreRoots, AreWholeTiles}
use Rattle.log_tiles.proofs.tiled.TileDisk.is_hashed.Given as goal

abbrev pub invariant-levels : goal.invariant-levels
invariant-levels g l =
    let has = g.T.Tiles.has l.self.tiles in
    record {
      whole : g.T.Tiles.Obeys l.self.tiles → (level : ℕ) → level < l.level → AreWholeTiles has l.self.size level;
      roots : g.T.Tiles.Obeys l.self.tiles → (level : ℕ) → level < l.level → AreRoots has l.self.size level;
    }
