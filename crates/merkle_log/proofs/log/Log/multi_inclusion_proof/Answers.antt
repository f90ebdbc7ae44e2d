use Rattle.merkle_log.proofs.MultiLeaves.{multi-accepted}
use Rattle.merkle_log.proofs.log.Log.multi_inclusion_proof.Goals as goal

pub returns-clause-accepted : goal.returns-clause-accepted
returns-clause-accepted g c = λ root tree.
    multi-accepted _ _ _ _ _ _ _ c.requires.indexes c.requires.within c.in_ok-proof.ensures tree
