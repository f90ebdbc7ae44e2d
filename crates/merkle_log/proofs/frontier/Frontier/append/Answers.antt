use Rattle.std.proofs.Common.{◌∷◌, [], refl}
use Rattle.merkle_log.proofs.Subtrees.{on_ok}
use Rattle.merkle_log.proofs.frontier.Frontier.append.Goals as goal

pub returns-clause-appended : goal.returns-clause-appended
returns-clause-appended g c =
    on_ok c.append_subtree.result (λ more digests own. more digests (g.D.Numbered.numbers c.args.digest ∷ []) own refl
    refl) c.append_subtree.ensures.appended
