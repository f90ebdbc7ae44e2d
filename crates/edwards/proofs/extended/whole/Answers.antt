use Rattle.ark_groups.specs.Words.{number}
use Rattle.edwards.specs.Values.{value}
use Rattle.edwards.proofs.CachedSums.{whole_stands}
use Rattle.edwards.proofs.extended.whole.Goals as goal

pub returns : goal.returns
returns g c d complete s on of_a =
    let a = c.args.a in
    whole_stands (number g.M.WideModulus.P) d complete (value a.x) (value a.y) (value a.z)
    (record { x = value c.mul.result; y = value c.mul-2.result; z = value c.mul-3.result; t = value c.mul-4.result })
    c.mul.ensures c.mul-2.ensures c.mul-3.ensures c.mul-4.ensures s of_a
