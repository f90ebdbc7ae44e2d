use Rattle.std.proofs.Common.{◌≡◌, ◌<◌, length, map, arith}
use Rattle.std.proofs.lemmas.List.{length-map}
use Rattle.ark_base.proofs.Refusals.{passed_on}
use Rattle.ark_base.specs.Laws.Steps.{done_injective}
use Rattle.ark_base.specs.declared.error.Error.{Error}
use Rattle.incremental_trees.proofs.LevelNodes.{node-read}
use Rattle.incremental_trees.proofs.RisingSteps.{rising-first, rising-next, rising-refused, rising-last}
use Rattle.incremental_trees.proofs.verify.top_over.Goals as goal

pub loop-level-init : goal.loop-level-init
loop-level-init g c =
    let numbers = g.D.Numbered.numbers in
    record {
      rises = rising-first (g.T.LevelHasher.nodes c.args.hasher.now) c.args.index (map numbers c.args.nodes.now)
          (numbers c.args.leaf.now) (numbers c.in_ok-node.node) (done_injective {E = Error} _ _ c.in_ok-node.ensures);
    }

pub loop-level-preserved : goal.loop-level-preserved
loop-level-preserved g c =
    let numbers = g.D.Numbered.numbers in
    let items = c.args.nodes.now in
    let level = c.loop-level.level in
    let read = node-read numbers items level c.index-nodes-level.result (omega arith) c.index-nodes-level.is in
    let below : level < length (map numbers items) = omega (arith, length-map items numbers) in
    record {
      rises = rising-next (g.T.LevelHasher.nodes c.args.hasher.now) level c.loop-level.place (map numbers items)
          (numbers c.loop-level.node) (numbers c.index-nodes-level.result) below read (numbers c.in_ok-node-2.node)
          c.in_ok-node-2.ensures _ c.loop-level.invariant.rises;
    }

pub returns-in_err-node-2 : goal.returns-in_err-node-2
returns-in_err-node-2 g c =
    let numbers = g.D.Numbered.numbers in
    let items = c.args.nodes.now in
    let level = c.loop-level.level in
    let read = node-read numbers items level c.index-nodes-level.result (omega arith) c.index-nodes-level.is in
    let below : level < length (map numbers items) = omega (arith, length-map items numbers) in
    passed_on _ _ c.from_residual-in_err-node-2.result c.in_err-node-2.field-0.0 c.from_residual-in_err-node-2.ensures.1
    c.in_err-node-2.ensures (λ is. rising-refused (g.T.LevelHasher.nodes c.args.hasher.now) level c.loop-level.place
    (map numbers items) (numbers c.loop-level.node) (numbers c.index-nodes-level.result) below read _ is _
    c.loop-level.invariant.rises)

pub returns : goal.returns
returns g c =
    let numbers = g.D.Numbered.numbers in
    let items = c.args.nodes.now in
    let long : length (map numbers items) ≡ c.loop-level.level = omega (arith, length-map items numbers) in
    rising-last (g.T.LevelHasher.nodes c.args.hasher.now) c.loop-level.level c.loop-level.place (map numbers items)
    (numbers c.loop-level.node) _ long c.loop-level.invariant.rises
