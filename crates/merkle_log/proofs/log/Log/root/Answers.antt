use Rattle.std.proofs.Common.{rules, take, ◌∙◌}
use Rattle.std.proofs.lemmas.List.{length-take-le}
use Rattle.merkle_log.proofs.Answered.{answered-each}
use Rattle.merkle_log.proofs.Halving.{root-halved}
use Rattle.merkle_log.proofs.log.Log.root.Goals as goal

pub returns-clause-root : goal.returns-clause-root
returns-clause-root g c = search rules

pub returns-clause-halved : goal.returns-clause-halved
returns-clause-halved g c = answered-each _ _ c.root_of.result _ (λ root is m size_is. root-halved _
    c.args.self.now.empty (take c.args.size c.args.self.now.digests) m _ (length-take-le c.args.size
    c.args.self.now.digests c.requires ∙ size_is) is) (returns-clause-root g c)
