use Rattle.log_store.specs.Spots.{spotted}
use Rattle.log_file.specs.LogFile.{stored_in}
use Rattle.log_store.proofs.proving.consistency_at.Given as goal

abbrev pub ghosts-consistency_over : goal.ghosts-consistency_over
ghosts-consistency_over g a =
    record { whole = spotted a.size a.spots.now (stored_in a.size (g.D.Disk.seen a._disk.now)) }
