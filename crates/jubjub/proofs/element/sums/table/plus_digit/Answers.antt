use Rattle.std.proofs.Common.{◌≡◌, ◌*◌, ◌%◌, sym, ap, ◌∙◌, subst}
use Rattle.edwards.specs.Laws.CurveLaws.{same_coordinates}
use Rattle.jubjub.specs.Edwards.{Coordinates, sum}
use Rattle.jubjub.specs.Jubjub.{p, d, IsOnJubjub}
use Rattle.jubjub.specs.Elements.{coordinates, jubjub}
use Rattle.jubjub.specs.Extended.{Stands, affine_at}
use Rattle.jubjub.specs.Sums.{total}
use Rattle.jubjub.specs.Tables.{signed_at}
use Rattle.jubjub.specs.Laws.Elements.{coordinates_of}
use Rattle.jubjub.proofs.Totals.{element_inside, total_is, sum_with}
use Rattle.jubjub.proofs.element.sums.table.plus_digit.Goals as goal

-- the coordinates that were chosen are the entry's
chosen_are : (c : goal.After-plus_crossed) → coordinates_of c.signed_multiple_at.result.x c.signed_multiple_at.result.y
    ≡ coordinates (signed_at c.args.multiples.now c.args.first c.args.digit)
chosen_are c =
    let chosen = c.signed_multiple_at.ensures in
    same_coordinates (coordinates_of c.signed_multiple_at.result.x c.signed_multiple_at.result.y)
    (coordinates (signed_at c.args.multiples.now c.args.first c.args.digit)) chosen.x_is chosen.y_is

-- so the sum of the points stands for the sum of the elements
summed : (c : goal.After-plus_crossed) → Stands c.plus_crossed.result
    (coordinates (jubjub.plus (total c.args.sum) (signed_at c.args.multiples.now c.args.first c.args.digit)))
summed c =
    let a = c.args.sum in
    let e = signed_at c.args.multiples.now c.args.first c.args.digit in
    let same = chosen_are c in
    sum_with c.plus_crossed.result a e
    (subst (λ (t : Coordinates). Stands c.plus_crossed.result (sum p d (affine_at a.point) t)) same
    (c.plus_crossed.ensures (affine_at a.point) a.inside.in_subgroup.on_curve
    (subst IsOnJubjub (sym same) e.in_subgroup.on_curve) a.inside.stands))

pub plus_crossed-requires : goal.plus_crossed-requires
plus_crossed-requires c =
    let chosen = c.signed_multiple_at.ensures in
    let e = signed_at c.args.multiples.now c.args.first c.args.digit in
    let same = same_coordinates (coordinates_of c.signed_multiple_at.result.x c.signed_multiple_at.result.y)
    (coordinates e) chosen.x_is chosen.y_is in
    chosen.crossed_is ∙ e.crossed_is ∙ ap (λ (a : Coordinates). 2 * d * a.x * a.y % p) (sym same)

pub of-requires-clause-point : goal.of-requires-clause-point
of-requires-clause-point c =
    let e = signed_at c.args.multiples.now c.args.first c.args.digit in
    element_inside c.plus_crossed.result (jubjub.plus (total c.args.sum) e) (summed c)

pub returns : goal.returns
returns c =
    let e = signed_at c.args.multiples.now c.args.first c.args.digit in
    total_is c.of.result c.plus_crossed.result (jubjub.plus (total c.args.sum) e) c.of.ensures (summed c.before)
