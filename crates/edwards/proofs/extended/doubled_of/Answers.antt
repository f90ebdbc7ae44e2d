use Rattle.std.proofs.Common.{◌*◌, ◌%◌, refl, ◌∙◌, ap}
use Rattle.ark_groups.specs.Words.{number}
use Rattle.edwards.specs.Values.{value}
use Rattle.edwards.proofs.ExtendedLaws.{double_stands}
use Rattle.edwards.proofs.Numbers.{numbers}
use Rattle.edwards.proofs.extended.doubled_of.Goals as goal

pub returns : goal.returns
returns g c d complete s on of_a =
    let p = number g.M.WideModulus.P in
    let a = c.args.a.now in
    double_stands p d complete (record { x = value a.x; y = value a.y; z = value a.z; t = s.x * s.y * value a.z })
    (numbers c.joined.result) (record {
      x = value c.mul-x.result;
      y = value c.mul-y.result;
      z = value c.mul.result;
      scale = value c.double.result;
      E = value c.double-2.result;
      F = value c.sub-f.result;
      G = value c.sub-g.result;
      H = value c.add.result;
      is_x = c.mul-x.ensures;
      is_y = c.mul-y.ensures;
      is_z = c.mul.ensures;
      is_scale = c.double.ensures;
      is_E = c.double-2.ensures ∙ ap (λ n. 2 * n % p) c.mul-2.ensures;
      is_F = c.sub-f.ensures;
      is_G = c.sub-g.ensures;
      is_H = c.add.ensures;
      joins = record {
        x = c.joined.ensures.x;
        y = c.joined.ensures.y;
        z = c.joined.ensures.z;
        t = c.joined.ensures.t;
      };
    }) s on (record { some = of_a.some; first = of_a.first; second = of_a.second; both = refl })
