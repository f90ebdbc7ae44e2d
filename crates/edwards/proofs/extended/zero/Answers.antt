use Rattle.ark_groups.specs.Words.{number}
use Rattle.ark_wide_fields.specs.Laws.Moduli.{at_least_two}
use Rattle.edwards.specs.Values.{value}
use Rattle.edwards.proofs.WithOne.{stands_neutral}
use Rattle.edwards.proofs.extended.zero.Goals as goal

pub returns : goal.returns
returns g c =
    stands_neutral (number g.M.WideModulus.P) (value c.zero.result) (value c.one.result) (value c.one-2.result)
    (value c.zero-2.result) (at_least_two g.M.WideModulus.laws) c.zero.ensures c.one.ensures c.one-2.ensures
    c.zero-2.ensures
