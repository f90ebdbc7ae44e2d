use Rattle.std.proofs.Common.{map, ◌∙◌, ap}
use Rattle.ark_pedersen.proofs.Iterates.{doublings-iterates}
use Rattle.ark_pedersen.proofs.crh.parameters_of.Goals as goal

pub returns-clause-made : goal.returns-clause-made
returns-clause-made g c =
    c.in_ok-lists_of.ensures.made
    ∙ ap (λ make. map make c.args.elements.now) (doublings-iterates g.met.C.AdditiveGroup.laws c.args.size)
