use Rattle.std.proofs.Common.{ℕ, sym, subst, refl}
use Rattle.jubjub.specs.Jubjub.{IsOnJubjub}
use Rattle.jubjub.specs.Values.{value}
use Rattle.ark_wide_fields.proofs.PowerSteps.{unless}
use Rattle.jubjub.proofs.CompressedFacts.{no_point}
use Rattle.jubjub.proofs.compressed.element_over.Goals as goal

pub returns-else-is_on_curve-clause-err : goal.returns-else-is_on_curve-clause-err
returns-else-is_on_curve-clause-err c =
    no_point (value c.args.y) c.args.odd (c.in-None.ensures.none refl)
    (λ on. unless c.is_on_curve.result c.is_on_curve.ensures c.if-is_on_curve.false
    (subst (λ (x : ℕ). IsOnJubjub (record { x = x; y = value c.args.y })) (sym c.zero.ensures) on))
