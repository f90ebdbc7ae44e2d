use Rattle.incremental_trees.proofs.LevelNodes.{node-read}
use Rattle.incremental_trees.proofs.nodes.empty_above.Goals as goal

pub returns : goal.returns
returns g c =
    let numbers = g.D.Numbered.numbers in
    let read = node-read numbers c.args.nodes.now c.args.level c.index-nodes-level.result c.requires
    c.index-nodes-level.is in
    rw read c.node.ensures
