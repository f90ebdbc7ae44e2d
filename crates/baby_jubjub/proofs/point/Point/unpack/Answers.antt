use Rattle.std.proofs.Common.{◌≡◌, ℕ, ◌<◌, sym, ◌∙◌, ap, arith}
use Rattle.std.proofs.Common.{Bool, false, true≢false, Result, Ok, Err}
use Rattle.std.specs.Prelude.{IsTrue, ◌↔◌, IfOk}
use Rattle.std.specs.Int.{from_bool}
use Rattle.ark_groups.specs.Words.{number}
use Rattle.ark_wide_fields.specs.Laws.Fp256.{wide_below}
use Rattle.baby_jubjub.specs.declared.point.Point.{Point}
use Rattle.baby_jubjub.specs.declared.point.PointFault.{PointFault}
use Rattle.baby_jubjub.specs.BabyJubjub.{p}
use Rattle.baby_jubjub.specs.Packed.{IsPointAt, packed_bytes, second_in, sign_in}
use Rattle.baby_jubjub.specs.Points.{coordinates}
use Rattle.baby_jubjub.specs.Values.{value}
use Rattle.baby_jubjub.proofs.PackedFacts.{own, y_of, sign_of_bytes, bytes_of_said}
use Rattle.baby_jubjub.proofs.point.Point.unpack.Goals as goal

pub returns-then-not-is_below-clause-own : goal.returns-then-not-is_below-clause-own
returns-then-not-is_below-clause-own c q is =
    let same : number c.told-negative.result.0 ≡ (coordinates q).y = c.told-negative.ensures.y ∙ ap second_in is
    ∙ y_of (coordinates q) q.on_curve.y_below in
    absurd (unless_true c.is_below.result c.is_below.ensures c.if-not-is_below.true
    (fits (coordinates q).y (number c.told-negative.result.0) (number c.modulus.result) same c.modulus.ensures
    q.on_curve.y_below))
  where
    unless_true : {P : Type 0} (b : Bool) → IsTrue b ↔ P → b ≡ false → P → ⊥
    unless_true b d off holds = true≢false (sym (d.1 holds) ∙ off)

    fits : (y m n : ℕ) → m ≡ y → n ≡ p → y < p → m < n
    fits y m n a b l = omega (arith, a, b, l)

pub returns-clause-ok : goal.returns-clause-ok
returns-clause-ok c = okay c.point_over.result c.point_over.ensures.ok
  where
    okay : (f : Result Point PointFault) → IfOk f (λ q. IsPointAt (value c.from_words.result)
        (from_bool c.told-negative.result.1) (coordinates q))
        → IfOk f (λ q. c.args.bytes.now ≡ packed_bytes (coordinates q))
    okay (Err fault) at = tt
    okay (Ok q) at =
        bytes_of_said c.args.bytes.now (coordinates q) c.told-bytes c.fits-bytes (record {
          second = at.second ∙ c.from_words.ensures ∙ c.told-negative.ensures.y;
          first = at.first ∙ c.told-negative.ensures.sign;
        })

pub returns-clause-own : goal.returns-clause-own
returns-clause-own c q is =
    own c.point_over.result (value c.from_words.result) (from_bool c.told-negative.result.1) q
    (wide_below c.from_words.result) c.point_over.ensures.ok c.point_over.ensures.err (record {
      second =
          sym (c.from_words.ensures ∙ c.told-negative.ensures.y ∙ ap second_in is
          ∙ y_of (coordinates q) q.on_curve.y_below);
      first =
          sym (c.told-negative.ensures.sign ∙ ap sign_in is ∙ sign_of_bytes (coordinates q) q.on_curve.y_below);
    })
