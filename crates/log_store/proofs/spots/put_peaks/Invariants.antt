use Rattle.std.proofs.Common.{◌≡◌, ◌<◌, ◌≤◌, ℕ, List}
use Rattle.ark_paths.specs.Pair.{Digest}
use Rattle.merkle_log.specs.Asked.{IsPeak}
use Rattle.merkle_log.specs.Stored.{position}
use Rattle.merkle_log.specs.Walk.{index_up}
use Rattle.log_store.specs.Spots.{AreMore, ArePeaksOf, AreSpotsOf, IsRead}
use Rattle.log_store.proofs.spots.put_peaks.Given as goal

abbrev pub invariant-levels : goal.invariant-levels
invariant-levels g l = record {
  left_is : l.left ≡ index_up l.level l.size;
  low : l.level ≤ 63;
  own : (digests : List Digest) → ArePeaksOf l.size l.peaks digests → AreSpotsOf l.initial.spots.items digests
      → AreSpotsOf l.spots.items digests;
  read : (level place : ℕ) → level < l.level → IsPeak l.size level place → IsRead l.spots.items (position level place);
  more : AreMore l.initial.spots.items l.spots.items;
}

abbrev pub decreases-levels : goal.decreases-levels
decreases-levels g l = l.left
