use Rattle.std.proofs.Common.{◌∙◌, ap}
use Rattle.std.proofs.lemmas.Result.{IfOk-weaker}
use Rattle.ark_pedersen.proofs.Iterates.{doublings-iterates}
use Rattle.ark_pedersen.proofs.crh.doublings_of.Goals as goal

pub returns-clause-made : goal.returns-clause-made
returns-clause-made g c =
    IfOk-weaker c.iterates_of.result _ _ (λ list made. made ∙ ap (λ make. make c.args.element)
    (doublings-iterates g.met.C.AdditiveGroup.laws c.args.count)) c.iterates_of.ensures.made
