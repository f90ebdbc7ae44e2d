-- A point of the curve whose order is 8 times that of the prime subgroup, by computation. Its first coordinate shows
-- that it is no double.
use Rattle.std.proofs.Common.{◌≡◌, ℕ, ◌+◌, ◌-◌, ◌*◌, ◌/◌, ◌%◌, ◌^◌, ◌<◌, refl, sym, ◌∙◌, ap, arith, lit<}
use Rattle.std.proofs.Common.{eqb, false, true≢false}
use Rattle.std.proofs.lemmas.Bool.{eq-eqb}
use Rattle.number_facts.specs.Powers.{power_mod}
use Rattle.number_facts.proofs.Units.{no_root}
use Rattle.ark_wide_fields.specs.Laws.Bls12_381Fr.{prime_factors, generates}
use Rattle.ark_groups.specs.Group.{times}
use Rattle.edwards.specs.Laws.CurveLaws.{above_some, x_of, y_of}
use Rattle.edwards.specs.Laws.Ladder.{ladder, multiple_is}
use Rattle.edwards.specs.Laws.Points.{same_point}
use Rattle.jubjub.specs.Edwards.{Coordinates, cross, neutral, sum}
use Rattle.jubjub.specs.Jubjub.{p, d, order, curve, IsOnJubjub}
use Rattle.jubjub.specs.Laws.Completeness.{complete, jubjub_is_complete}
use Rattle.jubjub.specs.Laws.Doubles.{double_squares}
use Rattle.jubjub.specs.Laws.Exponent.{HasFullOrder}
use Rattle.jubjub.specs.Laws.Modulus.{has_inverses}
use Rattle.jubjub.specs.Laws.Points.{Point, points, points_laws, at-times}

-- over 11, with an even first coordinate
abbrev whole_point : Coordinates
whole_point = record {
  x = 44746807950788659978687200207992930935149218647843500701850233404325651525118;
  y = 11;
}

on_curve : IsOnJubjub whole_point
on_curve = record { x_below = lit< tt; y_below = lit< tt; equation = refl }

multiple : (n : ℕ) → n < 2 ^ 255 → times curve n whole_point ≡ ladder p d jubjub_is_complete 255 n whole_point
multiple n fits = multiple_is p d jubjub_is_complete 255 n whole_point on_curve fits

-- ---- its order

zero_computed : ladder p d jubjub_is_complete 255 (8 * order) whole_point ≡ neutral
unfolding order
zero_computed = refl

half_computed : (ladder p d jubjub_is_complete 255 (4 * order) whole_point).y ≡ p - 1
unfolding order
half_computed = refl

eight_computed : eqb (ladder p d jubjub_is_complete 255 8 whole_point).y 1 ≡ false
eight_computed = refl

eight_fits : 8 * order < 2 ^ 255
unfolding order
eight_fits = lit< tt

four_fits : 4 * order < 2 ^ 255
unfolding order
four_fits = lit< tt

-- ---- no double

no_square : power_mod p 255 (1 + whole_point.x * whole_point.x) ((p - 1) / 2) ≡ p - 1
no_square = refl

no_double : (a : Coordinates) → IsOnJubjub a → sum p d a a ≡ whole_point → ⊥
no_double a on e =
    above_some p d has_inverses complete a a on on
    (no_root p 7 (p - 1) prime_factors generates (1 + whole_point.x * whole_point.x) ((p - 1) / 2) refl (lit< tt)
    (lit< tt) no_square (1 + cross d a a) (whole_point.y * (1 + (p - cross d a a % p)))
    (double_squares p whole_point.x whole_point.y (1 + cross d a a) (1 + (p - cross d a a % p)) a.x a.y
    (ap (λ (c : Coordinates). c.x * (1 + cross d a a) % p) (sym e) ∙ x_of p d has_inverses complete a a on on)
    (ap (λ (c : Coordinates). c.y * (1 + (p - cross d a a % p)) % p) (sym e)
    ∙ y_of p d has_inverses complete a a on on)
    (ap (λ n. n % p) (turn a.x a.y) ∙ on.equation)))
  where
    turn : (x y : ℕ) → x * x + (1 + d * x * x * y * y) ≡ x * x + 1 + d * x * x * y * y
    turn x y = omega arith

-- ---- as a point

pub whole : Point
whole = record { at = whole_point; on = on_curve }

-- the multiple's second coordinate is computed
second : (n : ℕ) → n < 2 ^ 255 → times points n whole ≡ points.identity
    → (ladder p d jubjub_is_complete 255 n whole_point).y ≡ 1
unfolding whole
second n fits e =
    ap (λ (c : Coordinates). c.y) (sym (multiple n fits) ∙ sym (at-times n whole) ∙ ap (λ (a : Point). a.at) e)

pub full_order : HasFullOrder points order whole
unfolding whole
full_order = record {
  zero = same_point p d jubjub_is_complete _ _
      (at-times (8 * order) whole ∙ multiple (8 * order) eight_fits ∙ zero_computed);
  eight = λ e. true≢false (sym (eq-eqb (ladder p d jubjub_is_complete 255 8 whole_point).y 1 (second 8 (lit< tt) e))
      ∙ eight_computed);
  half = λ e. clash (sym half_computed ∙ second (4 * order) four_fits e);
  no_double = λ h e. no_double h.at h.on
      (ap (λ (a : Point). a.at) (ap (λ t. points.plus t h) (sym (points_laws.left_identity h)) ∙ e));
}
  where
    clash : p - 1 ≡ 1 → ⊥
    clash h = omega (arith, h)
