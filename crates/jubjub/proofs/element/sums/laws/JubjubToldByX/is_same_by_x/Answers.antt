use Rattle.std.proofs.Common.{sym, ◌∙◌, ap}
use Rattle.ark_wide_fields.specs.Laws.Fp256.{wide_equal_if_same}
use Rattle.jubjub.specs.declared.element.Jubjub.{Jubjub}
use Rattle.jubjub.specs.Elements.{coordinates}
use Rattle.jubjub.specs.Laws.SameFirst.{same_first}
use Rattle.jubjub.proofs.element.sums.laws.JubjubToldByX.is_same_by_x.Goals as goal

pub returns : goal.returns
returns c =
    let same = wide_equal_if_same c.args.self.x c.args.other.x in (
      λ t. same_first c.args.self c.args.other (same.0 (sym c.eq.ensures ∙ t)),
      λ e. c.eq.ensures ∙ same.1 (ap (λ (z : Jubjub). (coordinates z).x) e),
    )
