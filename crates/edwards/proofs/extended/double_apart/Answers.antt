use Rattle.std.proofs.Common.{◌*◌, ◌%◌, refl, ◌∙◌, ap}
use Rattle.ark_groups.specs.Words.{number}
use Rattle.edwards.specs.Values.{value}
use Rattle.edwards.proofs.ExtendedLaws.{Four, double_stands}
use Rattle.edwards.proofs.extended.double_apart.Goals as goal

pub returns : goal.returns
returns g c d complete s on of_a =
    let p = number g.M.WideModulus.P in
    let a = c.args.a.now in
    let E = value c.double-e.result in
    let F = value c.sub-f.result in
    let G = value c.sub-g.result in
    let H = value c.add.result in
    let r : Four = record {
      x = value c.mul-a.result;
      y = value c.mul-a-2.result;
      z = value c.mul-a-3.result;
      t = E * H % p;
    } in
    let stands = double_stands p d complete
    (record { x = value a.x; y = value a.y; z = value a.z; t = s.x * s.y * value a.z }) r (record {
      x = value c.mul-x.result;
      y = value c.mul-y.result;
      z = value c.mul.result;
      scale = value c.double.result;
      E = E;
      F = F;
      G = G;
      H = H;
      is_x = c.mul-x.ensures;
      is_y = c.mul-y.ensures;
      is_z = c.mul.ensures;
      is_scale = c.double.ensures;
      is_E = c.double-e.ensures ∙ ap (λ n. 2 * n % p) c.mul-2.ensures;
      is_F = c.sub-f.ensures;
      is_G = c.sub-g.ensures;
      is_H = c.add.ensures;
      joins = record {
        x = c.mul-a.ensures;
        y = c.mul-a-2.ensures;
        z = c.mul-a-3.ensures;
        t = refl;
      };
    }) s on (record { some = of_a.some; first = of_a.first; second = of_a.second; both = refl }) in
    record { some = stands.some; first = stands.first; second = stands.second }
