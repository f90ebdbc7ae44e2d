use Rattle.std.proofs.Common.{ap, refl, arith}
use Rattle.log_tiles.specs.Tiles.{row_length}
use Rattle.log_tiles.proofs.TileRows.{roots-of}
use Rattle.log_tiles.proofs.tiled.TileDisk.is_level_hashed.Goals as goal

pub returns-clause-roots : goal.returns-clause-roots
returns-clause-roots g c = λ obeys. (
  λ _. roots-of (g.T.Tiles.has c.args.self.now.tiles) c.args.self.now.size c.args.level (λ index below.
      c.tiles.invariant.roots obeys index (omega (
        arith,
        c.row_length-index-end.ensures,
        ap (λ disk. row_length c.args.level disk.size) c.self.view_is,
      )) below),
  λ _. refl,
)
