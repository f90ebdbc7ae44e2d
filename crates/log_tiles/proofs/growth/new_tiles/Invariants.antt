use Rattle.log_tiles.proofs.Rows.{AreNew}
use Rattle.log_tiles.proofs.growth.new_tiles.Given as goal

abbrev pub invariant-tiles : goal.invariant-tiles
invariant-tiles l = AreNew l.old_size l.size l.level l.index l.tiles.items
