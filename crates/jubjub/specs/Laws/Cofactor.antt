-- Eight times each point of the curve is in the prime subgroup.
use Rattle.std.proofs.Common.{◌≡◌, ℕ, ◌+◌, ◌*◌, ◌%◌, ◌<◌, refl, sym, ◌∙◌, ap, subst, arith, lit<, mul_comm}
use Rattle.ark_groups.specs.Group.{times}
use Rattle.ark_groups.proofs.Multiples.{times-mul}
use Rattle.edwards.specs.Laws.CurveLaws.{same_coordinates}
use Rattle.edwards.specs.Laws.Points.{same_point}
use Rattle.jubjub.specs.Edwards.{Coordinates}
use Rattle.jubjub.specs.Jubjub.{p, d, order, curve, IsOnJubjub, IsInSubgroup}
use Rattle.jubjub.specs.Laws.Completeness.{jubjub_is_complete}
use Rattle.jubjub.specs.Laws.Exponent.{zero_for_all}
use Rattle.jubjub.specs.Laws.FirstCoordinates.{denominator_some, one_square, same_root}
use Rattle.jubjub.specs.Laws.Modulus.{has_inverses}
use Rattle.jubjub.specs.Laws.Points.{Point, points, points_laws, at-times}
use Rattle.jubjub.specs.Laws.PrimeOrder.{inverse}
use Rattle.jubjub.specs.Laws.Whole.{whole, full_order}

-- a point's second coordinate, with the parity of the first
number : Point → ℕ
number a = 2 * a.at.y + a.at.x % 2

-- tells the point
tells : (a b : Point) → number a ≡ number b → a ≡ b
unfolding number
tells a b e =
    let same_y = half a.at.y b.at.y a.at.x b.at.x e in
    same_point p d jubjub_is_complete a b (same_coordinates a.at b.at
    (same_root p has_inverses refl a.at.x b.at.x a.on.x_below b.on.x_below
    (one_square p d has_inverses a.at.y (denominator_some a.at.y) a.at.x b.at.x a.on.equation
    (subst (λ y. (b.at.x * b.at.x + 1 + d * b.at.x * b.at.x * y * y) % p ≡ y * y % p) (sym same_y) b.on.equation))
    (parity a.at.y b.at.y a.at.x b.at.x e)) same_y)
  where
    half : (y z x w : ℕ) → 2 * y + x % 2 ≡ 2 * z + w % 2 → y ≡ z
    half y z x w e = omega (arith, e)

    parity : (y z x w : ℕ) → 2 * y + x % 2 ≡ 2 * z + w % 2 → x % 2 ≡ w % 2
    parity y z x w e = omega (arith, e)

below : (a : Point) → number a < 2 * p
unfolding number
below a = small a.at.y a.at.x a.on.y_below
  where
    small : (y x : ℕ) → y < p → 2 * y + x % 2 < 2 * p
    small y x l = omega (arith, l)

-- fewer points than sums
few : 2 * p < 8 * order * 3
unfolding order
few = lit< tt

zero_for_points : (a : Point) → times points (8 * order) a ≡ points.identity
zero_for_points = zero_for_all points points_laws order inverse whole full_order number (2 * p) tells below few

pub cofactor_clears : (a : Coordinates) → IsOnJubjub a → IsInSubgroup (times curve 8 a)
cofactor_clears a on =
    let s : Point = record { at = a; on = on } in
    record {
      on_curve = subst IsOnJubjub (at-times 8 s) ((times points 8 s).on);
      of_order =
          ap (times curve order) (sym (at-times 8 s)) ∙ sym (at-times order (times points 8 s))
          ∙ ap (λ (b : Point). b.at) (sym (times-mul points_laws order 8 s)
          ∙ ap (λ n. times points n s) (mul_comm order 8) ∙ zero_for_points s);
    }
