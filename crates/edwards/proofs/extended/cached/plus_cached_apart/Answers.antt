use Rattle.std.proofs.Common.{◌*◌, ◌%◌, refl}
use Rattle.ark_groups.specs.Words.{number}
use Rattle.ark_wide_fields.specs.Laws.Fp256.{wide_below}
use Rattle.edwards.specs.Values.{value}
use Rattle.edwards.proofs.Numbers.{numbers}
use Rattle.edwards.proofs.ExtendedLaws.{Four}
use Rattle.edwards.proofs.CachedSums.{mixed_stands}
use Rattle.edwards.proofs.extended.cached.plus_cached_apart.Goals as goal

pub returns : goal.returns
returns g c d complete s t on_s on_t of_a of_b =
    let p = number g.M.WideModulus.P in
    let a = c.args.a in
    let b = c.args.b in
    let E = value c.sub-e.result in
    let H = value c.add-h.result in
    let r : Four = record {
      x = value c.mul.result;
      y = value c.mul-2.result;
      z = value c.mul-3.result;
      t = E * H % p;
    } in
    let stands = mixed_stands p d complete (numbers a) r (value b.less) (value b.more) (value b.scale) (value b.cross)
    (record {
      u = value c.sub.result;
      v = value c.add.result;
      first = value c.mul-first.result;
      second = value c.mul-second.result;
      third = value c.mul-third.result;
      scaled = value c.mul-scale.result;
      E = E;
      F = value c.sub-f.result;
      G = value c.add-g.result;
      H = H;
      is_u = c.sub.ensures;
      is_v = c.add.ensures;
      is_first = c.mul-first.ensures;
      is_second = c.mul-second.ensures;
      is_third = c.mul-third.ensures;
      is_scaled = c.mul-scale.ensures;
      is_E = c.sub-e.ensures;
      is_F = c.sub-f.ensures;
      is_G = c.add-g.ensures;
      is_H = c.add-h.ensures;
      joins = record {
        x = c.mul.ensures;
        y = c.mul-2.ensures;
        z = c.mul-3.ensures;
        t = refl;
      };
    }) (wide_below a.x) s t on_s on_t of_a of_b in
    record { some = stands.some; first = stands.first; second = stands.second }
