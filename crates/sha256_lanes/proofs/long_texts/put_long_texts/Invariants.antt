use Rattle.std.proofs.Common.{◌≡◌, ℕ, List, [], ◌++◌, ◌<◌, length, slice_index_or}
use Rattle.std.specs.Borrow.{Bor}
use Rattle.sha256_lanes.specs.Lanes.{AreLong}
use Rattle.sha256_lanes.proofs.long_texts.put_long_texts.Given as goal

abbrev pub invariant-load : goal.invariant-load
invariant-load g l = (length l.first ≡ g.row.LANES) × (length l.second ≡ g.row.LANES)
    × ((d : Bor (List ℕ)) (j : ℕ) → j < l.lane → AreLong (l.head ++ (slice_index_or l.messages j d).now)
    (slice_index_or l.first j []) (slice_index_or l.second j []))
