use Rattle.std.proofs.Common.{◌≡◌, ◌<◌, ◌≤◌, ℕ, List, [], length}
use Rattle.sha2.specs.Sha256.{sha256}
use Rattle.ark_paths.specs.Pair.{Digest}
use Rattle.merkle_log.specs.Asked.{IsPeak}
use Rattle.merkle_log.specs.Walk.{index_up}
use Rattle.log_tiles.specs.Audit.{tile_of, AreRowsOf, IsWholeTile}
use Rattle.log_tiles.proofs.Leading.{LeadsFrom}
use Rattle.log_tiles.proofs.tiled.TileDisk.root.Given as goal

abbrev pub invariant-levels : goal.invariant-levels
invariant-levels g l =
    let has = g.T.Tiles.has l.self.tiles in
    let size = l.self.size in
    record {
      left_is : l.left ≡ index_up l.level size;
      low : l.level ≤ 63;
      whole : g.T.Tiles.Obeys l.self.tiles → (level place : ℕ) → level < l.level → IsPeak size level place
          → IsWholeTile has (tile_of size level place);
      leads : g.T.Tiles.Obeys l.self.tiles → (leaves : List Digest) → AreRowsOf has size leaves → length leaves ≡ size
          → LeadsFrom leaves (sha256 []) l.level l.left l.last;
    }

abbrev pub decreases-levels : goal.decreases-levels
decreases-levels g l = l.left
