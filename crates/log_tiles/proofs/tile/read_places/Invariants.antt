use Rattle.std.proofs.Common.{◌≡◌, ◌≤◌, ◌*◌, length, take, drop}
use Rattle.log_store.specs.Sound.{IsAhead}
use Rattle.log_tiles.specs.Tiles.{rows_in}
use Rattle.log_file.specs.LogFile.{file_end}
use Rattle.log_tiles.proofs.tile.read_places.Given as goal

abbrev pub invariant-places : goal.invariant-places
invariant-places g l =
    let seen = g.D.Disk.seen l.disk in
    record {
      fits : l.ahead.count ≤ 512;
      ahead : g.D.Disk.Obeys l.disk → file_end l.size ≤ length seen
          → IsAhead l.ahead.start l.ahead.count l.ahead.bytes seen;
      read : g.D.Disk.Obeys l.disk → file_end l.size ≤ length seen → take l.place l.into
          ≡ take l.place (drop (256 * l.tile.index) (rows_in l.size seen (8 * l.tile.level)));
    }
