use Rattle.std.proofs.Common.{refl}
use Rattle.log_store.proofs.Writes.{torn-not}
use Rattle.log_tiles.proofs.tiled.TileDiskDisk.write_at.Goals as goal

pub returns-clause-crash : goal.returns-clause-crash
returns-clause-crash g c = λ obeys within left may.
    (left, may, torn-not c.args._at c.args._bytes.now left left refl)
