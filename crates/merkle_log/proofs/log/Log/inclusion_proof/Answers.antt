use Rattle.std.proofs.Common.{take, ◌∙◌, arith}
use Rattle.std.proofs.lemmas.List.{length-take-le}
use Rattle.merkle_log.proofs.Accepted.{inclusion-accepted}
use Rattle.merkle_log.proofs.Turned.{path-turned}
use Rattle.merkle_log.proofs.log.Log.inclusion_proof.Goals as goal

pub returns-clause-accepted : goal.returns-clause-accepted
returns-clause-accepted g c = λ root tree.
    inclusion-accepted _ _ _ _ _ _ _ c.requires.inside c.requires.within c.in_ok-path.ensures.proof tree

pub returns-clause-halved : goal.returns-clause-halved
returns-clause-halved g c = λ m size_is.
    let inside = c.requires.inside in
    path-turned _ c.args.self.now.empty (take c.args.size c.args.self.now.digests) m c.args.index _
    (length-take-le c.args.size c.args.self.now.digests c.requires.within ∙ size_is) (omega arith)
    c.in_ok-path.ensures.proof
