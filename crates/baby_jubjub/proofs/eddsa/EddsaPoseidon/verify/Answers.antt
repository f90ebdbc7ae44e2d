use Rattle.std.proofs.Common.{◌*◌, ◌∙◌, ap, sym}
use Rattle.ark_groups.specs.Group.{times}
use Rattle.ark_wide_fields.specs.Laws.Fp256.{wide_below}
use Rattle.baby_jubjub.specs.BabyJubjub.{order, curve, base8}
use Rattle.baby_jubjub.specs.Points.{coordinates}
use Rattle.baby_jubjub.proofs.eddsa.EddsaPoseidon.verify.Goals as goal

pub returns : goal.returns
unfolding order
returns c parameters of =
    let key = coordinates c.args.key in
    let r8 = coordinates c.args.signature.r8 in
    let hm = c.words-2.ensures ∙ c.challenge-hm.ensures parameters of in
    let left = ap (λ n. times curve n base8) c.words.ensures in
    let right = ap (λ n. curve.plus r8 (times curve (8 * n) key)) hm in (
      λ yes. record {
        key_on = c.args.key.on_curve;
        r8_on = c.args.signature.r8.on_curve;
        scalar_below = wide_below c.args.signature.s;
        equation = sym left ∙ c.holds.ensures.0 yes ∙ right;
      },
      λ it. c.holds.ensures.1 (left ∙ it.equation ∙ sym right),
    )
