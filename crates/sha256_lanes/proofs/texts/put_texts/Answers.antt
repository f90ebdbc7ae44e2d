use Rattle.std.proofs.Common.{◌++◌, ◌∙◌, [], arith, rules, slice_index_or}
use Rattle.sha256_lanes.specs.Lanes.{AreShort}
use Rattle.sha256_lanes.specs.Runs.{headed_hash, state_digest}
use Rattle.sha256_lanes.proofs.LaneLemmas.{at_any, each_more, lanes_done}
use Rattle.sha256_lanes.proofs.texts.put_texts.Goals as goal

pub load-preserved : goal.load-preserved
load-preserved g c = (
  search rules,
  λ d. each_more (λ j block. AreShort (c.args.head.now ++ (slice_index_or c.args.messages.now j d).now) block)
      c.load.words c.load.lane _ [] (omega arith) (c.load.invariant.1 d)
      (at_any (λ message. AreShort (c.args.head.now ++ message.now) c.text_words-block.result) c.args.messages.now
      c.load.lane _ d (omega arith) c.text_words-block.ensures),
)

pub returns : goal.returns
returns g c =
    c.put_states.ensures ∙ lanes_done state_digest (headed_hash c.args.head.now) _ c.args.messages.now (omega arith)
    (λ d j lt. c.short_states-states.ensures j (omega arith) _ (c.load.invariant.1 d j (omega arith)))
