use Rattle.log_store.specs.Overlay.{overlay}
use Rattle.log_file.specs.LogFile.{stored_in}
use Rattle.log_store.proofs.edge.root_with.Given as goal

abbrev pub ghosts-root_over : goal.ghosts-root_over
ghosts-root_over g a =
    record { whole = overlay a.size a.peaks.now (stored_in a.size (g.D.Disk.seen a._disk.now)) }
