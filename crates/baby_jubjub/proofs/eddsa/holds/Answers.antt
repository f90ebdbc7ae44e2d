use Rattle.std.proofs.Common.{sym, ◌∙◌, ap, ap₂, subst}
use Rattle.ark_groups.specs.Group.{times}
use Rattle.ark_groups.specs.Words.{number}
use Rattle.edwards.specs.Edwards.{sum}
use Rattle.edwards.specs.Laws.Points.{at-times}
use Rattle.edwards.specs.Extended.{Stands}
use Rattle.baby_jubjub.specs.BabyJubjub.{p, d, scaled}
use Rattle.baby_jubjub.specs.Laws.Curve.{baby_jubjub_is_complete}
use Rattle.baby_jubjub.specs.Points.{coordinates}
use Rattle.baby_jubjub.proofs.Carried.{negative_is}
use Rattle.baby_jubjub.proofs.Equation.{P, G, laws, there, base, eight_times, left_over, is_zero, of_zero}
use Rattle.baby_jubjub.proofs.eddsa.holds.Goals as goal

pub returns : goal.returns
returns c =
    let k = baby_jubjub_is_complete in
    let s = number c.args.s in
    let h = number c.args.hm in
    let key = coordinates c.args.key in
    let r8 = coordinates c.args.r8 in
    let on_key = c.args.key.on_curve in
    let on_r8 = c.args.r8.on_curve in
    let minus : P = G.opposite (there key on_key) in
    let one : Stands c.embedded.result minus.at =
    subst (Stands c.embedded.result) (ap scaled c.neg.ensures ∙ negative_is key on_key.x_below) c.embedded.ensures in
    let two : P = G.plus minus minus in
    let four : P = G.plus two two in
    let eight : Stands c.doubled-eight.result (times G 8 minus).at =
    subst (Stands c.doubled-eight.result) (ap (λ (q : P). q.at) (eight_times laws minus))
    (c.doubled-eight.ensures d k four.at four.on (c.doubled_twice.ensures d k minus.at minus.on one)) in
    let of_base : Stands c.embedded-2.result base.at =
    subst (Stands c.embedded-2.result) (ap scaled c.base8.ensures) c.embedded-2.ensures in
    let left : Stands c.sum_of_multiples_public-left.result
    (G.plus (times G s base) (times G h (times G 8 minus))).at =
    subst (Stands c.sum_of_multiples_public-left.result)
    (ap₂ (sum p d) (sym (at-times p d k s base)) (sym (at-times p d k h (times G 8 minus))))
    (c.sum_of_multiples_public-left.ensures d k c.twice_coefficient-twice.ensures base.at (times G 8 minus).at base.on
    (times G 8 minus).on of_base eight) in
    let back : P = G.opposite (there r8 on_r8) in
    let of_back : Stands c.embedded-3.result back.at =
    subst (Stands c.embedded-3.result) (ap scaled c.neg-2.ensures ∙ negative_is r8 on_r8.x_below)
    c.embedded-3.ensures in
    let first : P = G.plus (times G s base) (times G h (times G 8 minus)) in
    let rest : P = left_over s h key r8 on_key on_r8 in
    let test = c.is_neutral.ensures d k rest.at rest.on (c.plus.ensures d k c.twice_coefficient-twice.ensures first.at
    back.at first.on back.on left of_back) in (
      λ yes. of_zero s h key r8 on_key on_r8 (test.0 yes),
      λ e. test.1 (is_zero s h key r8 on_key on_r8 e),
    )
