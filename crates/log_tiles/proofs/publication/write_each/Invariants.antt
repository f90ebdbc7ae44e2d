use Rattle.std.proofs.Common.{◌≤◌, length}
use Rattle.log_file.specs.LogFile.{file_end}
use Rattle.log_tiles.specs.Tiles.{rows_in}
use Rattle.log_tiles.proofs.Written.{AreWritten, Stays}
use Rattle.log_tiles.proofs.publication.write_each.Given as goal

abbrev pub invariant-tiles : goal.invariant-tiles
invariant-tiles g l =
    Stays g.F.Folder.Obeys g.F.Folder.may_leave g.F.Folder.moment g.F.Folder.left_since l.fn.folder l.folder
    × (g.D.Disk.Obeys l.disk → file_end l.size ≤ length (g.D.Disk.seen l.disk) → g.F.Folder.Obeys l.folder
    → AreWritten (rows_in l.size (g.D.Disk.seen l.disk)) l.tiles l.place (g.F.Folder.written l.fn.folder)
    (g.F.Folder.written l.folder))
