use Rattle.std.proofs.Common.{◌≡◌, ℕ, List, [], ◌++◌, ◌<◌, length, slice_index_or}
use Rattle.std.specs.Borrow.{Bor}
use Rattle.sha256_lanes.specs.Lanes.{AreShort}
use Rattle.sha256_lanes.proofs.texts.put_texts.Given as goal

abbrev pub invariant-load : goal.invariant-load
invariant-load g l = (length l.words ≡ g.row.LANES)
    × ((d : Bor (List ℕ)) (j : ℕ) → j < l.lane
    → AreShort (l.head ++ (slice_index_or l.messages j d).now) (slice_index_or l.words j []))
