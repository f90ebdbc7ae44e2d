use Rattle.edwards.specs.Laws.Completeness.{has_inverses, complete}
use Rattle.edwards.specs.Laws.CurveLaws.{above_some, below_some}
use Rattle.edwards.proofs.laws.sums_are_complete.Goals as goal

pub returns : goal.returns
returns c p d k a b on_a on_b =
    let f = has_inverses p d k in
    let all = complete p d k in
    (above_some p d f all a b on_a on_b, below_some p d f all a b on_a on_b)
