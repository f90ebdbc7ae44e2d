use Rattle.std.proofs.Common.{sym, subst}
use Rattle.edwards.specs.Extended.{Stands}
use Rattle.edwards.specs.Laws.CurveLaws.{sum_neutral}
use Rattle.edwards.specs.Laws.Completeness.{has_inverses, complete}
use Rattle.edwards.proofs.Sums.{four_times, twice}
use Rattle.jubjub.specs.Jubjub.{p, d}
use Rattle.jubjub.specs.Laws.Completeness.{jubjub_is_complete}
use Rattle.jubjub.proofs.element.found.eight_times.Goals as goal

pub returns : goal.returns
returns c s on of_a =
    let k = jubjub_is_complete in
    let a = c.args.a in
    let e = c.doubled_twice.result in
    let once = subst (Stands a) (sym (sum_neutral p d (has_inverses p d k) (complete p d k) s on)) of_a in
    twice d k e c.doubled.result 4 s on (c.doubled.ensures d k)
    (four_times d k a e 1 s on (c.doubled_twice.ensures d k) once)
