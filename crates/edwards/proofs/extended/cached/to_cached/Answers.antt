use Rattle.std.proofs.Common.{◌*◌, ◌%◌, ◌∙◌, ap}
use Rattle.ark_groups.specs.Words.{number}
use Rattle.ark_wide_fields.specs.Laws.Fp256.{wide_below}
use Rattle.edwards.specs.Values.{value}
use Rattle.edwards.proofs.extended.cached.to_cached.Goals as goal

pub returns : goal.returns
returns g c d is_twice s of_a =
    let a = c.args.a in
    record {
      X = value a.x;
      Y = value a.y;
      Z = value a.z;
      T = value a.t;
      x_below = wide_below a.x;
      t_below = wide_below a.t;
      stands = of_a;
      less_is = c.sub.ensures;
      more_is = c.add.ensures;
      scale_is = c.double.ensures;
      cross_is = c.mul.ensures ∙ ap (λ n. n * value a.t % number g.M.WideModulus.P) is_twice;
    }
