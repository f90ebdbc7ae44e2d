use Rattle.std.proofs.Common.{◌≡◌, ◌+◌, ◌*◌, ◌/◌, ◌∙◌, ap, subst}
use Rattle.ark_groups.specs.Group.{times}
use Rattle.ark_groups.specs.Words.{number}
use Rattle.edwards.specs.Extended.{Stands}
use Rattle.ed25519.specs.Edwards25519.{curve, base_point}
use Rattle.ed25519.specs.Multiples.{every_fourth}
use Rattle.ed25519.proofs.BaseDigits.{all_digits}
use Rattle.ed25519.proofs.base.multiple_of_base.Goals as goal

pub returns : goal.returns
returns c =
    let n = number c.args.scalar in
    let a = number c.without_one-second.result in
    let b = number c.without_one-third.result in
    let e = number c.without_one.result in
    let a_is : a ≡ n / 16 = c.without_one-second.ensures.number in
    let b_is : b ≡ n / 16 / 16 = c.without_one-third.ensures.number ∙ ap (λ k. k / 16) a_is in
    let e_is : e ≡ n / 16 / 16 / 16 = c.without_one.ensures.number ∙ ap (λ k. k / 16) b_is in
    let one = 0 + every_fourth 16 e in
    let two = 16 * one + every_fourth 16 b in
    let three = 16 * two + every_fourth 16 a in
    let four = 16 * three + every_fourth 16 n in
    let last : Stands c.moved_up-3.result (times curve four base_point) =
    c.moved_up-3.ensures three (c.moved_up-2.ensures two (c.moved_up.ensures one
    (c.with_every_fourth-sum.ensures 0 c.zero.ensures))) in
    subst (λ k. Stands c.moved_up-3.result (times curve k base_point))
    (ap (λ k. 16 * (16 * (16 * (0 + every_fourth 16 k) + every_fourth 16 b) + every_fourth 16 a) + every_fourth 16 n)
    e_is
    ∙ ap (λ k. 16 * (16 * (16 * (0 + every_fourth 16 (n / 16 / 16 / 16)) + every_fourth 16 k) + every_fourth 16 a)
    + every_fourth 16 n) b_is
    ∙ ap (λ k. 16 * (16 * (16 * (0 + every_fourth 16 (n / 16 / 16 / 16)) + every_fourth 16 (n / 16 / 16))
    + every_fourth 16 k) + every_fourth 16 n) a_is
    ∙ all_digits n c.without_one-second.ensures.fits) last
