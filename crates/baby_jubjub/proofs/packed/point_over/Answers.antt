use Rattle.std.proofs.Common.{◌≡◌, ℕ, ◌∙◌, ap, sym, subst}
use Rattle.edwards.specs.Edwards.{Coordinates}
use Rattle.ark_wide_fields.proofs.PowerSteps.{unless}
use Rattle.baby_jubjub.specs.BabyJubjub.{IsOnBabyJubjub}
use Rattle.baby_jubjub.specs.Packed.{sign}
use Rattle.baby_jubjub.specs.Values.{value}
use Rattle.baby_jubjub.proofs.Carried.{negative_on}
use Rattle.baby_jubjub.proofs.PackedFacts.{sign_of_zero, other_sign, flipped, not_low}
use Rattle.baby_jubjub.proofs.packed.point_over.Goals as goal

pub of-requires-else-is_zero : goal.of-requires-else-is_zero
of-requires-else-is_zero c =
    subst (λ (x : ℕ). IsOnBabyJubjub (record { x = x; y = value c.args.y })) (sym c.neg.ensures)
    (negative_on (record { x = value c.in-Some.x; y = value c.args.y }) c.in-Some.ensures.some)

pub returns-then-is_zero-clause-err : goal.returns-then-is_zero-clause-err
returns-then-is_zero-clause-err c =
    let none : value c.in-Some.x ≡ 0 = c.is_zero.ensures.0 c.if-is_zero.true in (
      subst (λ (x : ℕ). IsOnBabyJubjub (record { x = x; y = value c.args.y })) none c.in-Some.ensures.some,
      not_low c.is_negative.result c.args.negative (c.is_negative.ensures ∙ ap sign none ∙ sign_of_zero)
          c.if-is_negative-negative.false,
    )

pub returns-else-is_zero-clause-ok : goal.returns-else-is_zero-clause-ok
returns-else-is_zero-clause-ok c =
    let x = value c.in-Some.x in
    record {
      second = ap (λ (q : Coordinates). q.y) c.of-else-is_zero.ensures;
      first = ap (λ (q : Coordinates). sign q.x) c.of-else-is_zero.ensures ∙ ap sign c.neg.ensures
          ∙ flipped c.is_negative.result c.args.negative (sign x) (sign _) c.is_negative.ensures
          c.if-is_negative-negative.false (other_sign x c.in-Some.ensures.some.x_below
          (unless c.is_zero.result c.is_zero.ensures c.if-is_zero.false));
    }
