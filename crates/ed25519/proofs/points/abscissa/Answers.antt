use Rattle.ark_wide_fields.specs.Laws.Fp256.{wide_below}
use Rattle.ed25519.specs.Values.{value}
use Rattle.ed25519.proofs.PointLaws.{ratio_made, ratio_of, some_denominator, one_square, on_of}
use Rattle.ed25519.proofs.points.abscissa.Goals as goal

pub returns-in-Some-clause-on : goal.returns-in-Some-clause-on
returns-in-Some-clause-on c =
    let ratio = ratio_made c.mul-yy.ensures c.one.ensures c.sub-u.ensures c.curve_coefficient.ensures c.mul.ensures
    c.one-2.ensures c.add-v.ensures in
    record {
      x_below = wide_below c.root_of_parity.result;
      y_below = wide_below c.args.y;
      equation = on_of (value c.args.y) (value c.sub-u.result) (value c.add-v.result) ratio (value c.in-Some.root)
          (value c.root_of_parity.result) c.in-Some.ensures.some c.root_of_parity.ensures.square;
    }

pub returns-in-Some-clause-parity : goal.returns-in-Some-clause-parity
returns-in-Some-clause-parity c a on y_is parity =
    let ratio = ratio_made c.mul-yy.ensures c.one.ensures c.sub-u.ensures c.curve_coefficient.ensures c.mul.ensures
    c.one-2.ensures c.add-v.ensures in
    c.root_of_parity.ensures.parity a.x on.x_below (one_square (value c.args.y) (value c.sub-u.result)
    (value c.add-v.result) ratio a (value c.in-Some.root) on y_is c.in-Some.ensures.some) parity

pub returns-in-None-clause-none : goal.returns-in-None-clause-none
returns-in-None-clause-none c none a on y_is =
    let ratio = ratio_made c.mul-yy.ensures c.one.ensures c.sub-u.ensures c.curve_coefficient.ensures c.mul.ensures
    c.one-2.ensures c.add-v.ensures in
    some_denominator (value c.args.y) (value c.sub-u.result) (value c.add-v.result) ratio a on y_is
    (c.in-None.ensures.none none a.x (ratio_of (value c.args.y) (value c.sub-u.result) (value c.add-v.result) ratio a
    on y_is))
