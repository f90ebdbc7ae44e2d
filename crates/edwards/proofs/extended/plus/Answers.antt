use Rattle.std.proofs.Common.{◌*◌, ◌%◌, ◌∙◌, ap}
use Rattle.ark_groups.specs.Words.{number}
use Rattle.edwards.specs.Values.{value}
use Rattle.edwards.proofs.Numbers.{numbers}
use Rattle.edwards.proofs.ExtendedLaws.{plus_stands, scale_is}
use Rattle.edwards.proofs.extended.plus.Goals as goal

pub returns : goal.returns
returns g c d complete is_twice =
    let p = number g.M.WideModulus.P in
    let a = c.args.a in
    let b = c.args.b in
    plus_stands p d complete (numbers a) (numbers b) (numbers c.joined.result) (record {
      k = value c.args.twice;
      crossed = value c.mul-cross.result;
      scale = value c.double-scale.result;
      E = value c.crossed_products.result.0;
      F = value c.sub.result;
      G = value c.add.result;
      H = value c.crossed_products.result.1;
      is_k = is_twice;
      is_crossed = c.mul-cross.ensures ∙ ap (λ n. n * value b.t % p) c.mul.ensures;
      is_scale = scale_is p (value a.z) (value b.z) (value c.mul-2.result) (value c.double-scale.result) c.mul-2.ensures
          c.double-scale.ensures;
      is_E = c.crossed_products.ensures.crossed;
      is_F = c.sub.ensures;
      is_G = c.add.ensures;
      is_H = c.crossed_products.ensures.straight;
      joins = record {
        x = c.joined.ensures.x;
        y = c.joined.ensures.y;
        z = c.joined.ensures.z;
        t = c.joined.ensures.t;
      };
    })
