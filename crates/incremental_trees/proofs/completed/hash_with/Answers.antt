use Rattle.incremental_trees.proofs.LevelNodes.{node-read}
use Rattle.incremental_trees.proofs.completed.hash_with.Goals as goal

pub returns : goal.returns
returns g c =
    let numbers = g.D.Numbered.numbers in
    let left = node-read numbers c.args.filled.now c.args.level c.index-filled-level.result c.requires.filled
    c.index-filled-level.is in
    let right = node-read numbers c.args.nodes.now c.args.level c.index-nodes-level.result c.requires.nodes
    c.index-nodes-level.is in
    rw (left, right) c.node.ensures
