use Rattle.std.proofs.Common.{◌≢◌, ◌≤◌, ◌<◌, ◌-◌, ℕ, length}
use Rattle.log_file.specs.LogFile.{file_end}
use Rattle.log_store.specs.Sound.{placed, IsAhead}
use Rattle.log_store.proofs.finding.first_with.Given as goal

abbrev pub invariant-entries : goal.invariant-entries
invariant-entries g l =
    let seen = g.D.Disk.seen l.disk in
    record {
      below : l.index ≤ l.size;
      fits : l.ahead.count ≤ 512;
      ahead : g.D.Disk.Obeys l.disk → file_end l.size ≤ length seen
          → IsAhead l.ahead.start l.ahead.count l.ahead.bytes seen;
      others : g.D.Disk.Obeys l.disk → file_end l.size ≤ length seen
          → (i : ℕ) → i < l.index → placed seen 0 i ≢ l.digest;
    }

abbrev pub decreases-entries : goal.decreases-entries
decreases-entries g l = l.size - l.index
