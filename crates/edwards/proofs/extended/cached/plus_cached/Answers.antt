use Rattle.ark_groups.specs.Words.{number}
use Rattle.ark_wide_fields.specs.Laws.Fp256.{wide_below}
use Rattle.edwards.specs.Values.{value}
use Rattle.edwards.proofs.Numbers.{numbers}
use Rattle.edwards.proofs.CachedSums.{mixed_stands}
use Rattle.edwards.proofs.extended.cached.plus_cached.Goals as goal

pub returns : goal.returns
returns g c d complete =
    let a = c.args.a in
    let b = c.args.b in
    mixed_stands (number g.M.WideModulus.P) d complete (numbers a) (numbers c.joined.result) (value b.less)
    (value b.more) (value b.scale) (value b.cross) (record {
      u = value c.sub.result;
      v = value c.add.result;
      first = value c.mul-first.result;
      second = value c.mul-second.result;
      third = value c.mul-third.result;
      scaled = value c.mul-scale.result;
      E = value c.sub-2.result;
      F = value c.sub-3.result;
      G = value c.add-2.result;
      H = value c.add-3.result;
      is_u = c.sub.ensures;
      is_v = c.add.ensures;
      is_first = c.mul-first.ensures;
      is_second = c.mul-second.ensures;
      is_third = c.mul-third.ensures;
      is_scaled = c.mul-scale.ensures;
      is_E = c.sub-2.ensures;
      is_F = c.sub-3.ensures;
      is_G = c.add-2.ensures;
      is_H = c.add-3.ensures;
      joins = record {
        x = c.joined.ensures.x;
        y = c.joined.ensures.y;
        z = c.joined.ensures.z;
        t = c.joined.ensures.t;
      };
    }) (wide_below a.x)
