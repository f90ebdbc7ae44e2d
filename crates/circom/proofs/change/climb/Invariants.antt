use Rattle.std.proofs.Common.{◌≡◌, ◌<◌, ◌^◌, length}
use Rattle.circom.specs.Hash.{table_outcome}
use Rattle.circom.specs.Changed.{Climbs}
use Rattle.merkle_log.specs.Stored.{row_at}
use Rattle.merkle_log.specs.Walk.{index_up}
use Rattle.circom.proofs.change.climb.Given as goal

abbrev pub invariant-levels : goal.invariant-levels
invariant-levels l = record {
  long : length l.over ≡ length l.fn.over;
  place_is : l.place ≡ index_up l.level l.index;
  count_is : l.count ≡ index_up l.level l.kept.size;
  inside : l.place < l.count;
  fits : l.count < 2 ^ 63;
  low : l.level < 64;
  at : Climbs (table_outcome l.table) (row_at l.kept) l.index l.element l.over l.level;
}

abbrev pub decreases-levels : goal.decreases-levels
decreases-levels l = l.count
