use Rattle.std.proofs.Common.{Ok, ap}
use Rattle.ark_pedersen.proofs.Copies.{copies-same}
use Rattle.ark_pedersen.proofs.parameters.ParametersDuplicate.duplicate.Goals as goal

pub returns : goal.returns
returns g c =
    ap Ok (copies-same g.C.Clone.is_clone g.met.C.AdditiveGroup.clones _ (λ v w alike. alike.0) _ _
    c.in_ok-generators.ensures.cases.0)
