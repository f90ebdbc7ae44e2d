use Rattle.std.proofs.Common.{◌≡◌, ◌<◌, ◌≤◌, ℕ, length}
use Rattle.merkle_log.specs.Asked.{IsBeside}
use Rattle.merkle_log.specs.Stored.{position}
use Rattle.merkle_log.specs.Walk.{index_up}
use Rattle.log_store.specs.Spots.{AreMore, AreSpotsOf, IsRead}
use Rattle.log_file.specs.LogFile.{file_end, stored_in}
use Rattle.log_store.proofs.spots.read_beside.Given as goal

abbrev pub invariant-levels : goal.invariant-levels
invariant-levels g l = record {
  left_is : l.left ≡ index_up l.level l.size;
  own_is : l.own ≡ index_up l.level l.index;
  low : l.level ≤ 63;
  own : g.D.Disk.Obeys l.disk → file_end l.size ≤ length (g.D.Disk.seen l.disk)
      → AreSpotsOf l.initial.spots.items (stored_in l.size (g.D.Disk.seen l.disk))
      → AreSpotsOf l.spots.items (stored_in l.size (g.D.Disk.seen l.disk));
  read : (level place : ℕ) → level < l.level → IsBeside l.index l.size level place → IsRead l.spots.items
      (position level place);
  more : AreMore l.initial.spots.items l.spots.items;
}

abbrev pub decreases-levels : goal.decreases-levels
decreases-levels g l = l.left
