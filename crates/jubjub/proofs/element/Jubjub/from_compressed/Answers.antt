use Rattle.std.proofs.Common.{◌≡◌, ℕ, ◌<◌, sym, ◌∙◌, ap, arith}
use Rattle.std.proofs.Common.{Bool, false, true≢false, Result, Ok, Err}
use Rattle.std.specs.Prelude.{IsTrue, ◌↔◌, IfOk}
use Rattle.jubjub.specs.declared.compressed.PointFault.{PointFault}
use Rattle.std.specs.Int.{from_bool}
use Rattle.ark_groups.specs.Words.{number}
use Rattle.ark_wide_fields.specs.Laws.Fp256.{wide_below}
use Rattle.jubjub.specs.declared.element.Jubjub.{Jubjub}
use Rattle.jubjub.specs.Jubjub.{p}
use Rattle.jubjub.specs.Compressed.{IsAt, compressed, y_in, parity_in}
use Rattle.jubjub.specs.Elements.{coordinates}
use Rattle.jubjub.specs.Values.{value}
use Rattle.jubjub.proofs.CompressedFacts.{own, y_of, parity_of, bytes_of_said}
use Rattle.jubjub.proofs.element.Jubjub.from_compressed.Goals as goal

pub returns-then-not-is_below-clause-own : goal.returns-then-not-is_below-clause-own
returns-then-not-is_below-clause-own c e is =
    let same : number c.told-odd.result.0 ≡ (coordinates e).y = c.told-odd.ensures.y ∙ ap y_in is
    ∙ y_of (coordinates e) e.in_subgroup.on_curve.y_below in
    absurd (unless_true c.is_below.result c.is_below.ensures c.if-not-is_below.true
    (fits (coordinates e).y (number c.told-odd.result.0) (number c.modulus.result) same c.modulus.ensures
    e.in_subgroup.on_curve.y_below))
  where
    unless_true : {P : Type 0} (b : Bool) → IsTrue b ↔ P → b ≡ false → P → ⊥
    unless_true b d off holds = true≢false (sym (d.1 holds) ∙ off)

    fits : (y m n : ℕ) → m ≡ y → n ≡ p → y < p → m < n
    fits y m n a b l = omega (arith, a, b, l)

pub returns-clause-ok : goal.returns-clause-ok
returns-clause-ok c =
    okay c.element_over.result c.element_over.ensures.ok
  where
    okay : (r : Result Jubjub PointFault) → IfOk r (λ e. IsAt (value c.from_words.result)
        (from_bool c.told-odd.result.1)
        (coordinates e)) → IfOk r (λ e. c.args.bytes.now ≡ compressed (coordinates e))
    okay (Err fault) at = tt
    okay (Ok e) at =
        bytes_of_said c.args.bytes.now (coordinates e) c.told-bytes c.fits-bytes (record {
          second = at.second ∙ c.from_words.ensures ∙ c.told-odd.ensures.y;
          first = at.first ∙ c.told-odd.ensures.parity;
        })

pub returns-clause-own : goal.returns-clause-own
returns-clause-own c e is =
    own c.element_over.result (value c.from_words.result) (from_bool c.told-odd.result.1) e
    (wide_below c.from_words.result) c.element_over.ensures.ok c.element_over.ensures.err (record {
      second =
          sym (c.from_words.ensures ∙ c.told-odd.ensures.y ∙ ap y_in is
          ∙ y_of (coordinates e) e.in_subgroup.on_curve.y_below);
      first =
          sym (c.told-odd.ensures.parity ∙ ap parity_in is ∙ parity_of (coordinates e) e.in_subgroup.on_curve.y_below);
    })
