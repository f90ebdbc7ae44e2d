use Rattle.paxidore_calls.proofs.Blocks.{root-all}
use Rattle.paxidore_calls.proofs.roots.root_of_all.Goals as goal

pub returns : goal.returns
returns g c = root-all g.H.ArrayHash.node_hash g.H.ArrayHash.leaf_hash c.args.leaves.now c.args.lengths.now
    c.root_from.result.0 c.root_from.ensures.root
