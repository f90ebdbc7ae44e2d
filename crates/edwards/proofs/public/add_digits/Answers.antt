use Rattle.std.proofs.Common.{◌∙◌, subst}
use Rattle.ark_groups.specs.Words.{number}
use Rattle.edwards.specs.Laws.Points.{Point, points}
use Rattle.edwards.specs.Cached.{signed_multiple}
use Rattle.edwards.specs.Extended.{StandsApart}
use Rattle.edwards.proofs.OddMultiples.{adds_nothing}
use Rattle.edwards.proofs.public.add_digits.Goals as goal

pub returns-then-j-eq0 : goal.returns-then-j-eq0
returns-then-j-eq0 g c d k s t q first second of_q =
    let p = number g.M.WideModulus.P in
    let double : Point p d k = (points p d k).plus q q in
    let more : Point p d k = (points p d k).plus double (signed_multiple p d k c.args.i s) in
    subst (λ (q : Point p d k). StandsApart c.double_apart.new.a q.at)
    (adds_nothing p d k c.args.i s double c.if-i-eq0.true ∙ adds_nothing p d k c.args.j t more c.if-j-eq0.true)
    (c.double_apart.ensures d k q.at q.on of_q)

pub returns-then-j-eq0-2 : goal.returns-then-j-eq0-2
returns-then-j-eq0-2 g c d k s t q first second of_q =
    let p = number g.M.WideModulus.P in
    let double : Point p d k = (points p d k).plus q q in
    let more : Point p d k = (points p d k).plus double (signed_multiple p d k c.args.i s) in
    subst (λ (q : Point p d k). StandsApart c.with_last_digit.result q.at)
    (adds_nothing p d k c.args.j t more c.if-j-eq0-2.true)
    (c.with_last_digit.ensures d k s double first (c.doubled_of-twice.ensures d k q.at q.on of_q))

pub returns : goal.returns
returns g c d k s t q first second of_q =
    let p = number g.M.WideModulus.P in
    let double : Point p d k = (points p d k).plus q q in
    let more : Point p d k = (points p d k).plus double (signed_multiple p d k c.args.i s) in
    c.with_last_digit-2.ensures d k t more second
    (c.with_digit.ensures d k s double first (c.doubled_of-twice.ensures d k q.at q.on of_q))
