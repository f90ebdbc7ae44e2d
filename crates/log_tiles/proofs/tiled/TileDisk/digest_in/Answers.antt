use Rattle.log_tiles.proofs.TileRows.{first-of}
use Rattle.log_tiles.proofs.tiled.TileDisk.digest_in.Goals as goal

pub returns : goal.returns
returns g c = λ obeys below. first-of (g.T.Tiles.has c.args.self.now.tiles) c.args.self.now.size c.args.level
    c.args.place c.read.new.into (c.in_ok-read.ensures.read obeys) below
