use Rattle.std.proofs.Common.{arith}
use Rattle.log_tiles.proofs.TiledFiles.{tiled-log}
use Rattle.log_tiles.proofs.laws.tiles_are_of_a_log.Goals as goal

pub returns : goal.returns
returns g c = λ disk fits obeys own log. (
  (obeys, own),
  (tiled-log (g.T.Tiles.has disk.tiles) disk.size log (omega arith) own, (log.count, log.root_is)),
)
