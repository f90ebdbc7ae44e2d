use Rattle.jubjub.specs.Elements.{jubjub}
use Rattle.jubjub.specs.Extended.{affine_at}
use Rattle.jubjub.specs.Sums.{total}
use Rattle.jubjub.proofs.Totals.{element_inside, total_is, sum_with}
use Rattle.jubjub.proofs.element.sums.group.JubjubAdditiveGroup.add_to_sum.Goals as goal

pub of-requires-clause-point : goal.of-requires-clause-point
of-requires-clause-point c =
    let a = c.args.sum in
    let e = c.args.element in
    element_inside c.plus_crossed-point.result (jubjub.plus (total a) e) (sum_with c.plus_crossed-point.result a e
    (c.plus_crossed-point.ensures (affine_at a.point) a.inside.in_subgroup.on_curve e.in_subgroup.on_curve
    a.inside.stands))

pub returns : goal.returns
returns c =
    let a = c.args.sum in
    let e = c.args.element in
    total_is c.of.result c.plus_crossed-point.result (jubjub.plus (total a) e) c.of.ensures
    (sum_with c.plus_crossed-point.result a e
    (c.plus_crossed-point.ensures (affine_at a.point) a.inside.in_subgroup.on_curve e.in_subgroup.on_curve
    a.inside.stands))
