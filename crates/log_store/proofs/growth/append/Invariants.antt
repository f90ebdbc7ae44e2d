use Rattle.log_store.specs.Overlay.{overlay}
use Rattle.log_file.specs.LogFile.{stored_in}
use Rattle.log_store.proofs.growth.append.Given as goal

abbrev pub ghosts-bytes_over : goal.ghosts-bytes_over
ghosts-bytes_over g a =
    record { whole = overlay a.size a.peaks.now (stored_in a.size (g.D.Disk.seen a._disk.now)) }
