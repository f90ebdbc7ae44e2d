use Rattle.std.proofs.Common.{◌≡◌, ℕ, List, [], ◌<◌, length, slice_index_or}
use Rattle.sha2.specs.Sha256.{compress}
use Rattle.sha256_lanes.specs.Lanes.{AreWords}
use Rattle.sha256_lanes.proofs.lanes.compress_blocks.Given as goal

abbrev pub invariant-lanes : goal.invariant-lanes
invariant-lanes g l = (length l.after ≡ g.row.LANES) × ((j : ℕ) → j < l.lane → (b : List ℕ)
    → AreWords b (slice_index_or l.blocks j []) → slice_index_or l.after j []
    ≡ compress (slice_index_or l.states j []) b)
