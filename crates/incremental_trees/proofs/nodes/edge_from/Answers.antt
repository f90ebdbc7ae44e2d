use Rattle.std.proofs.Common.{◌≡◌, ◌+◌, ◌/◌, ◌^◌, suc, ap, ◌∙◌, arith}
use Rattle.ark_base.proofs.Refusals.{passed_on}
use Rattle.incremental_trees.specs.Nodes.{node_at}
use Rattle.incremental_trees.proofs.LevelNodes.{node-read}
use Rattle.incremental_trees.proofs.Edges.{edge-step, edge-refused_at}
use Rattle.incremental_trees.proofs.nodes.edge_from.Goals as goal

pub returns-in_err-node : goal.returns-in_err-node
returns-in_err-node g c = λ empty leaves depth long le empties filled lowest.
    let numbers = g.D.Numbered.numbers in
    let left = node-read numbers c.args.filled.now c.loop-level.level c.index-filled-level.result
    (omega (arith, c.requires.filled)) c.index-filled-level.is in
    let right = node-read numbers c.args.empties.now c.loop-level.level c.index-empties-level.result
    (omega (arith, c.requires.empties)) c.index-empties-level.is in
    passed_on _ _ c.from_residual.result c.in_err-node.field-0.0 c.from_residual.ensures.1 c.in_err-node.ensures
    (λ refused. edge-refused_at (record { long = long; empties_are = empties; filled_are = filled }) c.loop-level.level
    c.args.top (numbers c.loop-level.node) _ _ _ (omega arith) le
    (c.loop-level.invariant.at empty leaves depth
    (record { long = long; empties_are = empties; filled_are = filled }) le lowest) left right refused)

pub loop-level-preserved : goal.loop-level-preserved
loop-level-preserved g c =
    let numbers = g.D.Numbered.numbers in
    let hash = g.T.LevelHasher.nodes c.args.hasher.now in
    let left = node-read numbers c.args.filled.now c.loop-level.level c.index-filled-level.result
    (omega (arith, c.requires.filled)) c.index-filled-level.is in
    let right = node-read numbers c.args.empties.now c.loop-level.level c.index-empties-level.result
    (omega (arith, c.requires.empties)) c.index-empties-level.is in
    let up : c.loop-level.level + 1 ≡ suc c.loop-level.level = omega arith in
    record {
      at = λ empty leaves depth kept le lowest.
          ap (λ n. node_at hash empty leaves n (c.args.size / 2 ^ n)) up
          ∙ edge-step kept c.loop-level.level (numbers c.loop-level.node) _ _ _ (omega arith)
          (c.loop-level.invariant.at empty leaves depth kept le lowest) left right c.in_ok-node.ensures;
    }
