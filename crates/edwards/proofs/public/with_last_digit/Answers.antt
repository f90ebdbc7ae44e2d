use Rattle.ark_groups.specs.Words.{number}
use Rattle.edwards.specs.Laws.Points.{Point}
use Rattle.std.proofs.Common.{subst}
use Rattle.edwards.specs.Cached.{signed_multiple}
use Rattle.edwards.specs.Extended.{StandsApart}
use Rattle.edwards.proofs.OddMultiples.{adds_nothing}
use Rattle.edwards.proofs.public.with_last_digit.Goals as goal

pub returns-then-digit-eq0 : goal.returns-then-digit-eq0
returns-then-digit-eq0 g c d k s q table of_q =
    let p = number g.M.WideModulus.P in
    subst (λ (q : Point p d k). StandsApart c.args.sum q.at) (adds_nothing p d k c.args.digit s q c.if-digit-eq0.true)
    (record { some = of_q.some; first = of_q.first; second = of_q.second })

pub returns-else-digit-eq0 : goal.returns-else-digit-eq0
returns-else-digit-eq0 g c d k s q table of_q =
    let p = number g.M.WideModulus.P in
    let by : Point p d k = signed_multiple p d k c.args.digit s in
    c.plus_cached_apart.ensures d k q.at by.at q.on by.on of_q (c.entry.ensures d k s table)
