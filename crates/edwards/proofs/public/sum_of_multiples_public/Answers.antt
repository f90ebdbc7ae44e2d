use Rattle.std.proofs.Common.{ap₂, subst}
use Rattle.ark_groups.specs.Words.{number}
use Rattle.edwards.specs.Edwards.{sum}
use Rattle.edwards.specs.Laws.Points.{Point, at-times}
use Rattle.edwards.specs.Extended.{Stands}
use Rattle.edwards.proofs.public.sum_of_multiples_public.Goals as goal

pub returns : goal.returns
returns g c d k is_twice s t on_s on_t of_a of_b =
    let p = number g.M.WideModulus.P in
    let m = number c.args.m in
    let n = number c.args.n in
    let one : Point p d k = record { at = s; on = on_s } in
    let other : Point p d k = record { at = t; on = on_t } in
    subst (Stands c.by_digits.result) (ap₂ (sum p d) (at-times p d k m one) (at-times p d k n other))
    (c.by_digits.ensures d k one other (c.odd_multiples-first.ensures d k is_twice one of_a)
    (c.odd_multiples-second.ensures d k is_twice other of_b) m n c.signed_digits.ensures.whole
    c.signed_digits-2.ensures.whole)
