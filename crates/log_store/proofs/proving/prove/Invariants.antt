use Rattle.log_store.specs.Spots.{spotted}
use Rattle.log_file.specs.LogFile.{stored_in}
use Rattle.log_store.proofs.proving.prove.Given as goal

abbrev pub ghosts-inclusion_over : goal.ghosts-inclusion_over
ghosts-inclusion_over g a =
    record { whole = spotted a.size a.spots.now (stored_in a.size (g.D.Disk.seen a._disk.now)) }
