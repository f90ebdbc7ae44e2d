use Rattle.std.proofs.Common.{◌∙◌, ap}
use Rattle.std.proofs.lemmas.Result.{IfOk-weaker}
use Rattle.rand_core.specs.Stream.{Stream}
use Rattle.ark_pedersen.specs.Pedersen.{doublings}
use Rattle.ark_pedersen.proofs.crh.CRH.generator_powers.Goals as goal

pub returns-clause-made : goal.returns-clause-made
returns-clause-made g c =
    IfOk-weaker c.doublings_of.result _ _ (λ list made. made
    ∙ ap (λ (drawn : g.row.C.Denot × Stream). doublings g.C.AdditiveGroup.group c.args.count drawn.0)
    c.rand-element.ensures) c.doublings_of.ensures.made

pub returns-clause-left : goal.returns-clause-left
returns-clause-left g c =
    IfOk-weaker c.doublings_of.result _ _
    (λ list made. ap (λ (drawn : g.row.C.Denot × Stream). drawn.1) c.rand-element.ensures) c.doublings_of.ensures.made
