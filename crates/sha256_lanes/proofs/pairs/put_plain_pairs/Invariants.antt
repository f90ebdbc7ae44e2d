use Rattle.std.proofs.Common.{◌≡◌, ℕ, List, [], ◌++◌, ◌<◌, length, slice_index_or}
use Rattle.std.specs.Borrow.{Bor}
use Rattle.sha256_lanes.specs.Lanes.{AreWhole}
use Rattle.sha256_lanes.proofs.pairs.put_plain_pairs.Given as goal

abbrev pub invariant-load : goal.invariant-load
invariant-load g l = (length l.words ≡ g.row.LANES)
    × ((d : Bor (List ℕ) × Bor (List ℕ)) (j : ℕ) → j < l.lane → (let couple = slice_index_or l.couples j d in
    AreWhole (couple.0.now ++ couple.1.now) (slice_index_or l.words j [])))
