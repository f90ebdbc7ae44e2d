use Rattle.std.proofs.Common.{None, ◌++◌, ◌∙◌, [], arith, rules, slice_index_or}
use Rattle.sha256_lanes.specs.Lanes.{AreWhole}
use Rattle.sha256_lanes.specs.Runs.{pair_behind, state_digest}
use Rattle.sha256_lanes.proofs.LaneLemmas.{at_any, each_more, lanes_done}
use Rattle.sha256_lanes.proofs.pairs.put_plain_pairs.Goals as goal

pub load-preserved : goal.load-preserved
load-preserved g c = (
  search rules,
  λ d. each_more (λ j block. let couple = slice_index_or c.args.couples.now j d in
      AreWhole (couple.0.now ++ couple.1.now) block) c.load.words c.load.lane _ [] (omega arith)
      (c.load.invariant.1 d)
      (at_any (λ couple. AreWhole (couple.0.now ++ couple.1.now) c.pair_words-block.result) c.args.couples.now
      c.load.lane _ d (omega arith) c.pair_words-block.ensures),
)

pub returns : goal.returns
returns g c =
    c.put_states.ensures ∙ lanes_done state_digest (pair_behind None) _ c.args.couples.now (omega arith)
    (λ d j lt. c.whole_states-states.ensures j (omega arith) _ (c.load.invariant.1 d j (omega arith)))
