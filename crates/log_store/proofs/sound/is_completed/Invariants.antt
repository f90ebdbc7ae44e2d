use Rattle.std.proofs.Common.{suc, ◌≡◌, ◌<◌, ◌≤◌, ◌+◌, ℕ, length}
use Rattle.merkle_log.specs.Walk.{index_up}
use Rattle.log_file.specs.LogFile.{file_end}
use Rattle.log_store.specs.Sound.{placed, IsAhead, IsNode}
use Rattle.log_store.proofs.Sounding.{Climbs}
use Rattle.log_store.proofs.sound.is_completed.Given as goal

abbrev pub invariant-odd : goal.invariant-odd
invariant-odd g l =
    let seen = g.D.Disk.seen l.disk in
    record {
      at : Climbs l.index l.level l.left;
      own : g.D.Disk.Obeys l.disk → IsAhead l.ahead.start l.ahead.count l.ahead.bytes seen
          → file_end (l.index + 1) ≤ length seen → l.own ≡ placed seen l.level l.left;
      hashed : g.D.Disk.Obeys l.disk → IsAhead l.ahead.start l.ahead.count l.ahead.bytes seen
          → file_end (l.index + 1) ≤ length seen → (k : ℕ) → k < l.level → IsNode seen k (index_up (suc k) l.index);
    }

abbrev pub decreases-odd : goal.decreases-odd
decreases-odd g l = l.left
