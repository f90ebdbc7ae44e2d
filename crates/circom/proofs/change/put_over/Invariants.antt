use Rattle.std.proofs.Common.{◌≡◌}
use Rattle.circom.proofs.Changing.{Putting}
use Rattle.merkle_log.specs.Walk.{index_up}
use Rattle.circom.proofs.change.put_over.Given as goal

abbrev pub invariant-levels : goal.invariant-levels
invariant-levels l = record {
  place_is : l.place ≡ index_up l.level l.index;
  count_is : l.count ≡ index_up l.level l.size;
  at : Putting l.size l.index l.fn.digests l.digests l.over l.level;
}

abbrev pub decreases-levels : goal.decreases-levels
decreases-levels l = l.count
