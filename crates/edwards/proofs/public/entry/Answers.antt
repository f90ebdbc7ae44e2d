use Rattle.std.proofs.Common.{◌≡◌, ◌+◌, ◌-◌, ◌*◌, ◌/◌, get_or, arith, subst}
use Rattle.ark_groups.specs.Group.{times}
use Rattle.ark_groups.specs.Words.{number}
use Rattle.edwards.specs.Laws.Points.{Point, points}
use Rattle.edwards.specs.Cached.{IsCached}
use Rattle.edwards.proofs.Balance.{multiple_low, multiple_high}
use Rattle.edwards.proofs.public.entry.Goals as goal

pub returns-then-digit-lt16 : goal.returns-then-digit-lt16
returns-then-digit-lt16 g c d k s table =
    let p = number g.M.WideModulus.P in
    let digit = c.args.digit in
    let same : 2 * (digit / 2) + 1 ≡ digit = omega (arith, c.requires.odd) in
    let e = c.index-table-digit.result in
    subst (λ (q : Point p d k). IsCached d (get_or c.args.table.now (digit / 2) e) q.at)
    (multiple_low p d k digit s c.if-digit-lt16.true)
    (subst (λ n. IsCached d (get_or c.args.table.now (digit / 2) e) (times (points p d k) n s).at) same
    (table (digit / 2) e (omega (arith, c.if-digit-lt16.true))))

pub returns-else-digit-lt16 : goal.returns-else-digit-lt16
returns-else-digit-lt16 g c d k s table =
    let p = number g.M.WideModulus.P in
    let digit = c.args.digit in
    let i = (31 - digit) / 2 in
    let same : 2 * i + 1 ≡ 32 - digit = omega (arith, c.requires.odd, c.requires.below) in
    let one : Point p d k = times (points p d k) (2 * i + 1) s in
    subst (λ (q : Point p d k). IsCached d c.opposite.result q.at) (multiple_high p d k digit s c.if-digit-lt16.false)
    (subst (λ n. IsCached d c.opposite.result ((points p d k).opposite (times (points p d k) n s)).at) same
    (c.opposite.ensures d one.at one.on
    (table i c.index-table-digit-else-digit-lt16.result (omega (arith, c.if-digit-lt16.false)))))
