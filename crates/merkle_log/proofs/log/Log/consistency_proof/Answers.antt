use Rattle.std.proofs.Common.{ap, ◌∙◌, arith}
use Rattle.std.proofs.lemmas.List.{take-take}
use Rattle.merkle_log.specs.Log.{merkle_tree_hash}
use Rattle.merkle_log.proofs.Accepted.{consistency-accepted}
use Rattle.merkle_log.proofs.log.Log.consistency_proof.Goals as goal

pub returns-clause-accepted : goal.returns-clause-accepted
returns-clause-accepted g c = λ old root old_tree tree.
    let inside = c.requires.inside in
    consistency-accepted _ _ _ _ _ _ _ _ c.requires.some c.requires.inside c.requires.within
    c.in_ok-path.ensures.proof
    (ap (merkle_tree_hash (g.T.TreeHasher.hashes c.args.self.now.hasher).pair.upper c.args.self.now.empty)
    (take-take c.args.old_size c.args.size c.args.self.now.digests (omega arith)) ∙ old_tree) tree
