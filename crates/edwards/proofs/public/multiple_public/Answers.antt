use Rattle.std.proofs.Common.{◌∙◌, ap, subst}
use Rattle.ark_groups.specs.Group.{times}
use Rattle.ark_groups.specs.Words.{number}
use Rattle.ark_groups.proofs.Multiples.{right_identity}
use Rattle.edwards.specs.Laws.Points.{Point, points, points_laws, at-times}
use Rattle.edwards.specs.Extended.{Stands}
use Rattle.edwards.proofs.public.multiple_public.Goals as goal

pub returns : goal.returns
returns g c d k is_twice s on of_a =
    let p = number g.M.WideModulus.P in
    let n = number c.args.scalar in
    let one : Point p d k = record { at = s; on = on } in
    let table = c.odd_multiples-table.ensures d k is_twice one of_a in
    subst (Stands c.by_digits.result)
    (ap (λ (q : Point p d k). q.at) (right_identity (points_laws p d k) (times (points p d k) n one))
    ∙ at-times p d k n one)
    (c.by_digits.ensures d k one one table table n 0 c.signed_digits.ensures.whole c.signed_digits-2.ensures.whole)
