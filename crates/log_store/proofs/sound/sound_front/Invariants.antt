use Rattle.std.proofs.Common.{◌≤◌, ◌+◌, ◌-◌, ◌*◌, length}
use Rattle.merkle_log.specs.Stored.{stored_count}
use Rattle.log_store.specs.Sound.{AreNodes, IsAhead}
use Rattle.log_store.proofs.sound.sound_front.Given as goal

abbrev pub invariant-entries : goal.invariant-entries
invariant-entries g l =
    let seen = g.D.Disk.seen l.disk in
    record {
      limit : l.size ≤ l.limit;
      count : stored_count l.size ≤ l.count;
      fits : l.ahead.count ≤ 512;
      ahead : g.D.Disk.Obeys l.disk → 96 + 32 * l.count ≤ length seen
          → IsAhead l.ahead.start l.ahead.count l.ahead.bytes seen;
      sound : g.D.Disk.Obeys l.disk → 96 + 32 * l.count ≤ length seen → AreNodes seen l.size;
    }

abbrev pub decreases-entries : goal.decreases-entries
decreases-entries g l = l.limit - l.size
