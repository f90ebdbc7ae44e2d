use Rattle.std.proofs.Common.{◌≡◌, ℕ, ◌*◌, ◌%◌, ◌<◌, ◌⊎◌, inl, inr, sym, ◌∙◌, ap, arith, mod-eq_of_lt}
use Rattle.std.proofs.lemmas.Bool.{cases_eq}
use Rattle.std.proofs.lemmas.Option.{IfSome_then}
use Rattle.ark_wide_fields.specs.Laws.Fp256.{wide_below}
use Rattle.jubjub.specs.Jubjub.{p, d}
use Rattle.jubjub.specs.Values.{value}
use Rattle.jubjub.specs.Laws.Modulus.{has_inverses}
use Rattle.jubjub.specs.Laws.FirstCoordinates.{denominator_some, one_square, over_alike}
use Rattle.edwards.specs.Laws.Quotients.{product_some}
use Rattle.jubjub.proofs.decoding.first_over.Goals as goal

pub returns-clause-some : goal.returns-clause-some
returns-clause-some c =
    IfSome_then c.of_parity.result c.of_parity.ensures.square (λ x square. record {
      x_below = wide_below x;
      y_below = wide_below c.args.y;
      equation =
          let y = value c.args.y in
          over_alike p d has_inverses y (denominator_some y) (value c.in_ok-root_over.field-0) (value x) (sym square)
          c.in_ok-root_over.ensures.some;
    })

pub returns-clause-none : goal.returns-clause-none
returns-clause-none c none x on parity =
    let y = value c.args.y in
    let root = value c.in_ok-root_over.field-0 in
    let square : x * x % p ≡ root * root % p =
    one_square p d has_inverses y (denominator_some y) x root on.equation c.in_ok-root_over.ensures.some in
    clash x (parity ∙ c.of_parity.ensures.odd none)
    (same_zero x on.x_below (square ∙ ap (λ r. r * r % p) (c.of_parity.ensures.zero none)))
  where
    clash : (x : ℕ) → x % 2 ≡ 1 → x ≡ 0 → ⊥
    clash x one zero' = omega (arith, one, zero')

    same_zero : (x : ℕ) → x < p → x * x % p ≡ 0 → x ≡ 0
    same_zero x below e = at (cases_eq (x % p) 0)
      where
        at : (x % p ≡ 0) ⊎ (x % p ≡ 0 → ⊥) → x ≡ 0
        at (inl none) = sym (mod-eq_of_lt below) ∙ none
        at (inr some) = absurd (product_some p has_inverses x x some some e)
