use Rattle.std.proofs.Common.{◌∙◌}
use Rattle.log_tiles.proofs.TileRows.{full-root}
use Rattle.log_tiles.proofs.tiled.TileDisk.root_of_tile.Goals as goal

pub returns-clause-root : goal.returns-clause-root
returns-clause-root g c = λ obeys below. c.halved_root.ensures ∙ full-root (g.T.Tiles.has c.args.self.now.tiles)
    c.args.self.now.size c.args.level c.args.index c.read.new.into (c.in_ok-read.ensures.read obeys)
    (c.in_ok-read.ensures.whole obeys) below
