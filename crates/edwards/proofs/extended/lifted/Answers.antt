use Rattle.ark_groups.specs.Words.{number}
use Rattle.ark_wide_fields.specs.Laws.Moduli.{at_least_two}
use Rattle.edwards.specs.Values.{value}
use Rattle.edwards.proofs.WithOne.{stands_point}
use Rattle.edwards.proofs.extended.lifted.Goals as goal

pub returns : goal.returns
returns g c =
    stands_point (number g.M.WideModulus.P) (value c.args.x) (value c.args.y) (value c.one.result)
    (value c.mul.result) (at_least_two g.M.WideModulus.laws) c.one.ensures c.mul.ensures
