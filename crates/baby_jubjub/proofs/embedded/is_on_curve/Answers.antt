use Rattle.std.proofs.Common.{◌≡◌, ◌+◌, ◌*◌, ◌%◌, ◌∙◌, sym, ap}
use Rattle.ark_wide_fields.specs.Laws.Fp256.{wide_equal_if_same, wide_below}
use Rattle.baby_jubjub.specs.BabyJubjub.{p}
use Rattle.baby_jubjub.specs.Values.{value}
use Rattle.baby_jubjub.proofs.Reduced.{left_side, right_side}
use Rattle.baby_jubjub.proofs.embedded.is_on_curve.Goals as goal

pub returns : goal.returns
returns c =
    let x = value c.args.x in
    let y = value c.args.y in
    let xx = value c.mul-xx.result in
    let yy = value c.mul-yy.result in
    let same = wide_equal_if_same c.add-left.result c.add.result in
    let left : value c.add-left.result ≡ (168700 * x * x + y * y) % p =
    left_side p 168700 168696 x y xx yy c.mul-xx.ensures c.mul-yy.ensures (value c.mul.result) (value c.add-left.result)
    (c.mul.ensures ∙ ap (λ n. n * xx % p) c.from_u64.ensures) c.add-left.ensures in
    let right : value c.add.result ≡ (1 + 168696 * x * x * y * y) % p =
    right_side p 168700 168696 x y xx yy c.mul-xx.ensures c.mul-yy.ensures (value c.mul-2.result)
    (value c.mul-right.result) (value c.add.result) (c.mul-2.ensures ∙ ap (λ n. n * xx % p) c.from_u64-2.ensures)
    c.mul-right.ensures (c.add.ensures ∙ ap (λ n. (n + value c.mul-right.result) % p) c.one.ensures) in (
      λ t. record {
        x_below = wide_below c.args.x;
        y_below = wide_below c.args.y;
        equation = sym left ∙ same.0 (sym c.eq.ensures ∙ t) ∙ right;
      },
      λ on. c.eq.ensures ∙ same.1 (left ∙ on.equation ∙ sym right),
    )
