use Rattle.std.proofs.Common.{Some, ◌∙◌, arith}
use Rattle.sha256_lanes.specs.Runs.{pair_behind, state_digest}
use Rattle.sha256_lanes.proofs.LaneLemmas.{lanes_done}
use Rattle.sha256_lanes.proofs.prefixed_pairs.put_prefixed_pairs.Goals as goal

pub returns : goal.returns
returns g c =
    c.put_states.ensures ∙ lanes_done state_digest (pair_behind (Some c.args.prefix)) _ c.args.couples.now (omega arith)
    (λ d j lt. c.long_states-states.ensures j (omega arith) _ (c.load.invariant.2 d j (omega arith)))
