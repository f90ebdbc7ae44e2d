use Rattle.std.proofs.Common.{◌∙◌, arith}
use Rattle.sha256_lanes.specs.Runs.{headed_hash, state_digest}
use Rattle.sha256_lanes.proofs.LaneLemmas.{lanes_done}
use Rattle.sha256_lanes.proofs.long_texts.put_long_texts.Goals as goal

pub returns : goal.returns
returns g c =
    c.put_states.ensures ∙ lanes_done state_digest (headed_hash c.args.head.now) _ c.args.messages.now (omega arith)
    (λ d j lt. c.long_states-states.ensures j (omega arith) _ (c.load.invariant.2 d j (omega arith)))
