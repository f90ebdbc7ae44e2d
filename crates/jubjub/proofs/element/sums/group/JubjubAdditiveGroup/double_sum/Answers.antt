use Rattle.jubjub.specs.Elements.{jubjub}
use Rattle.jubjub.specs.Extended.{affine_at}
use Rattle.jubjub.specs.Sums.{total}
use Rattle.jubjub.specs.Jubjub.{d}
use Rattle.jubjub.specs.Laws.Completeness.{jubjub_is_complete}
use Rattle.jubjub.proofs.Totals.{element_inside, total_is, sum_stands}
use Rattle.jubjub.proofs.element.sums.group.JubjubAdditiveGroup.double_sum.Goals as goal

pub of-requires-clause-point : goal.of-requires-clause-point
of-requires-clause-point c =
    let a = c.args.a in
    element_inside c.doubled.result (jubjub.plus (total a) (total a)) (sum_stands c.doubled.result a a
    (c.doubled.ensures d jubjub_is_complete (affine_at a.point) a.inside.in_subgroup.on_curve a.inside.stands))

pub returns : goal.returns
returns c =
    let a = c.args.a in
    total_is c.of.result c.doubled.result (jubjub.plus (total a) (total a)) c.of.ensures
    (sum_stands c.doubled.result a a
    (c.doubled.ensures d jubjub_is_complete (affine_at a.point) a.inside.in_subgroup.on_curve a.inside.stands))
