use Rattle.std.proofs.Common.{◌≡◌, ℕ, List, [], arith, rules, slice_index_or}
use Rattle.sha2.specs.Sha256.{compress}
use Rattle.sha256_lanes.specs.Lanes.{AreWords}
use Rattle.sha256_lanes.proofs.LaneLemmas.{each_more}
use Rattle.sha256_lanes.proofs.lanes.compress_blocks.Goals as goal

pub lanes-preserved : goal.lanes-preserved
lanes-preserved g c = (
  search rules,
  each_more (λ j after. (b : List ℕ) → AreWords b (slice_index_or c.args.blocks.now j [])
      → after ≡ compress (slice_index_or c.args.states.now j []) b) c.lanes.after c.lanes.lane _ [] (omega arith)
      c.lanes.invariant.1 c.compress_words-state.ensures,
)
