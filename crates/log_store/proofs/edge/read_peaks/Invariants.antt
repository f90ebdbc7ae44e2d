use Rattle.std.proofs.Common.{◌≡◌, ◌<◌, ◌≤◌, ℕ, [], length, get_or}
use Rattle.merkle_log.specs.Asked.{IsPeak}
use Rattle.merkle_log.specs.Stored.{position}
use Rattle.merkle_log.specs.Walk.{index_up}
use Rattle.log_file.specs.LogFile.{file_end, stored_in}
use Rattle.log_store.proofs.edge.read_peaks.Given as goal

abbrev pub invariant-levels : goal.invariant-levels
invariant-levels g l = record {
  left_is : l.left ≡ index_up l.level l.size;
  low : l.level ≤ 63;
  read : g.D.Disk.Obeys l.disk → file_end l.size ≤ length (g.D.Disk.seen l.disk) → (level place : ℕ) → level < l.level
      → IsPeak l.size level place
      → get_or l.peaks level [] ≡ get_or (stored_in l.size (g.D.Disk.seen l.disk)) (position level place) [];
}

abbrev pub decreases-levels : goal.decreases-levels
decreases-levels g l = l.left
