use Rattle.paxidore_calls.specs.Answer.{tree_leaves_in}
use Rattle.paxidore_c.proofs.Codes.{done-zero}
use Rattle.paxidore_calls.proofs.TreeLemmas.{log-root}
use Rattle.paxidore_c.proofs.trees.paxidore_root.Goals as goal

pub returns-in-2-clause-tree_hash : goal.returns-in-2-clause-tree_hash
returns-in-2-clause-tree_hash c = λ two zero.
    let leaves = tree_leaves_in c.args.leaves.now c.args.lengths.now in
    log-root c.args.leaves.now c.args.lengths.now _
    (c.write_root-in-2.ensures.root (done-zero leaves c.write_root-in-2.result c.write_root-in-2.ensures.answer zero))
