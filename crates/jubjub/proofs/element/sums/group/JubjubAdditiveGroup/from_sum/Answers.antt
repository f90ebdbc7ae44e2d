use Rattle.std.proofs.Common.{◌∙◌, sym}
use Rattle.jubjub.specs.Laws.Elements.{same_element}
use Rattle.jubjub.proofs.Totals.{at-total}
use Rattle.jubjub.proofs.element.sums.group.JubjubAdditiveGroup.from_sum.Goals as goal

pub of_extended-requires : goal.of_extended-requires
of_extended-requires c = (_, c.args.sum.inside.in_subgroup, c.args.sum.inside.stands)

pub returns : goal.returns
returns c =
    same_element _ _ (c.of_extended.ensures _ c.args.sum.inside.in_subgroup c.args.sum.inside.stands
    ∙ sym (at-total c.args.sum))
