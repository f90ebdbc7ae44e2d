use Rattle.std.proofs.Common.{◌∙◌, sym}
use Rattle.ark_groups.specs.Words.{number}
use Rattle.ark_wide_fields.specs.Laws.Fp256.{wide_below, wide_equal_if_same}
use Rattle.edwards.proofs.Numbers.{numbers}
use Rattle.edwards.proofs.Neutral.{neutral_from, neutral_first, neutral_second}
use Rattle.edwards.proofs.extended.is_neutral.Goals as goal

pub returns-then-eq : goal.returns-then-eq
returns-then-eq g c d complete s on of_a =
    let p = number g.M.WideModulus.P in
    let zero = wide_equal_if_same c.args.a.x c.zero.result in
    let same = wide_equal_if_same c.args.a.y c.args.a.z in (
      λ t. neutral_from p d complete (numbers c.args.a) s on of_a
          (zero.0 (sym c.eq.ensures ∙ c.if-eq.true) ∙ c.zero.ensures) (same.0 (sym c.eq-then-eq.ensures ∙ t)),
      λ e. c.eq-then-eq.ensures ∙ same.1 (neutral_second p (numbers c.args.a) s of_a (wide_below c.args.a.y)
          (wide_below c.args.a.z) e),
    )

pub returns-else-eq : goal.returns-else-eq
returns-else-eq g c d complete s on of_a =
    let p = number g.M.WideModulus.P in
    let zero = wide_equal_if_same c.args.a.x c.zero.result in (
      λ t. absurd (let no = c.if-eq.false in cc),
      λ e. c.eq.ensures ∙ zero.1 (neutral_first p (numbers c.args.a) s of_a (wide_below c.args.a.x) e
          ∙ sym c.zero.ensures),
    )
