use Rattle.std.proofs.Common.{◌≡◌, ◌+◌, ◌*◌, ◌%◌, ◌∙◌, sym, ap}
use Rattle.ark_wide_fields.specs.Laws.Fp256.{wide_equal_if_same, wide_below}
use Rattle.jubjub.specs.Jubjub.{p, d}
use Rattle.jubjub.specs.Values.{value}
use Rattle.jubjub.proofs.PointTests.{left_side}
use Rattle.jubjub.proofs.multiple.is_on_curve.Goals as goal

pub returns : goal.returns
returns c =
    let x = value c.args.x in
    let y = value c.args.y in
    let same = wide_equal_if_same c.add-2.result c.mul-yy.result in
    let left : value c.add-2.result ≡ (x * x + 1 + d * x * x * y * y) % p =
    left_side p d x y (value c.mul-xx.result) (value c.mul-yy.result) (value c.add.result) (value c.mul.result)
    (value c.mul-right.result) (value c.add-2.result) c.mul-xx.ensures c.mul-yy.ensures
    (c.add.ensures ∙ ap (λ n. (value c.mul-xx.result + n) % p) c.one.ensures) c.mul.ensures
    (c.mul-right.ensures ∙ ap (λ n. value c.mul.result * n % p) c.coefficient.ensures) c.add-2.ensures in (
      λ t. record {
        x_below = wide_below c.args.x;
        y_below = wide_below c.args.y;
        equation = sym left ∙ same.0 (sym c.eq.ensures ∙ t) ∙ c.mul-yy.ensures;
      },
      λ on. c.eq.ensures ∙ same.1 (left ∙ on.equation ∙ sym c.mul-yy.ensures),
    )
