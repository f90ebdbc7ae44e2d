use Rattle.jubjub.specs.Elements.{jubjub}
use Rattle.jubjub.specs.Extended.{affine_at}
use Rattle.jubjub.specs.Sums.{total}
use Rattle.jubjub.specs.Jubjub.{d}
use Rattle.jubjub.specs.Laws.Completeness.{jubjub_is_complete}
use Rattle.jubjub.proofs.Totals.{element_inside, total_is, sum_stands}
use Rattle.jubjub.proofs.element.sums.group.JubjubAdditiveGroup.add_sums.Goals as goal

pub of-requires-clause-point : goal.of-requires-clause-point
of-requires-clause-point c =
    let a = c.args.a in
    let b = c.args.b in
    element_inside c.plus.result (jubjub.plus (total a) (total b)) (sum_stands c.plus.result a b
    (c.plus.ensures d jubjub_is_complete a.twice_is (affine_at a.point) (affine_at b.point)
    a.inside.in_subgroup.on_curve b.inside.in_subgroup.on_curve a.inside.stands b.inside.stands))

pub returns : goal.returns
returns c =
    let a = c.args.a in
    let b = c.args.b in
    total_is c.of.result c.plus.result (jubjub.plus (total a) (total b)) c.of.ensures (sum_stands c.plus.result a b
    (c.plus.ensures d jubjub_is_complete a.twice_is (affine_at a.point) (affine_at b.point)
    a.inside.in_subgroup.on_curve b.inside.in_subgroup.on_curve a.inside.stands b.inside.stands))
