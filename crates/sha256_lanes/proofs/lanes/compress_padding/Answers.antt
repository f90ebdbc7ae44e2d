use Rattle.std.proofs.Common.{◌≡◌, [], arith, rules, slice_index_or}
use Rattle.sha2.specs.Sha256.{compress}
use Rattle.sha256_lanes.specs.Lanes.{pad}
use Rattle.sha256_lanes.proofs.LaneLemmas.{each_more}
use Rattle.sha256_lanes.proofs.lanes.compress_padding.Goals as goal

pub lanes-preserved : goal.lanes-preserved
lanes-preserved g c = (
  search rules,
  each_more (λ j after. after ≡ compress (slice_index_or c.args.states.now j []) pad) c.lanes.after c.lanes.lane _ []
      (omega arith) c.lanes.invariant.1 c.compress_pad-state.ensures,
)
