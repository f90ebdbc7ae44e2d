use Rattle.ark_groups.specs.Words.{number}
use Rattle.edwards.specs.Edwards.{sum}
use Rattle.edwards.specs.Laws.Completeness.{has_inverses, complete}
use Rattle.edwards.specs.Laws.CurveLaws.{sum_closed}
use Rattle.edwards.proofs.extended.doubled_twice.Goals as goal

pub returns : goal.returns
returns g c d k s on of_a =
    let p = number g.M.WideModulus.P in
    c.doubled_of.ensures d k (sum p d s s) (sum_closed p d (has_inverses p d k) (complete p d k) s s on on)
    (c.double_apart.ensures d k s on
    (record { some = of_a.some; first = of_a.first; second = of_a.second }))
