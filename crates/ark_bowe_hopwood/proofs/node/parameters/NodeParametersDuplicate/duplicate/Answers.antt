use Rattle.std.proofs.Common.{Ok, refl, ap}
use Rattle.ark_pedersen.proofs.Copies.{copies-same}
use Rattle.ark_bowe_hopwood.specs.Laws.Nodes.{leveled-alike}
use Rattle.ark_bowe_hopwood.proofs.node.parameters.NodeParametersDuplicate.duplicate.Goals as goal

pub returns : goal.returns
returns g c =
    ap Ok (leveled-alike refl (copies-same g.G.Clone.is_clone g.met.G.AdditiveGroup.clones _ (λ v w alike. alike.0) _ _
    c.in_ok-generators.ensures.cases.0))
