-- The points of Jubjub as a commutative group, and its subgroup of the points of prime order.
use Rattle.std.proofs.Common.{◌≡◌, ℕ, sym, ◌∙◌, ap}
use Rattle.std.proofs.Math.Nat.{ℕ_set}
use Rattle.ark_groups.specs.Group.{Group, IsCommutativeGroup, times}
use Rattle.ark_groups.proofs.Multiples.{times-plus, times-identity, right_identity}
use Rattle.edwards.specs.Laws.CurveLaws.{sum_closed, neutral_on_curve, negative_closed}
use Rattle.edwards.specs.Laws.Points as curves
use Rattle.edwards.specs.Laws.Points.{on_curve_alike}
use Rattle.jubjub.specs.Edwards.{Coordinates, sum, neutral, negative}
use Rattle.jubjub.specs.Jubjub.{p, d, order, curve, IsInSubgroup}
use Rattle.jubjub.specs.Laws.Modulus.{has_inverses}
use Rattle.jubjub.specs.Laws.Completeness.{complete, jubjub_is_complete}

-- ---- the points on the curve

abbrev pub Point : Type 0
Point = curves.Point p d jubjub_is_complete

abbrev pub points : Group Point
points = curves.points p d jubjub_is_complete

pub points_laws : IsCommutativeGroup points
points_laws = curves.points_laws p d jubjub_is_complete

pub at-times : (n : ℕ) (a : Point) → (times points n a).at ≡ times curve n a.at
at-times = curves.at-times p d jubjub_is_complete

-- ---- the prime subgroup

pub in_subgroup_alike : (a : Coordinates) (u v : IsInSubgroup a) → u ≡ v
in_subgroup_alike a u v = λ i. record {
  on_curve = on_curve_alike p d a u.on_curve v.on_curve i;
  of_order = coordinates_set _ _ u.of_order v.of_order i;
}
  where
    coordinates_set : IsSet Coordinates
    coordinates_set = hlevel (ℕ_set)

IsZero : Point → Type 0
IsZero a = times points order a ≡ points.identity

-- the order's multiple of a point is zero where that of its coordinates is
pub zero_from : (a : Coordinates) (s : IsInSubgroup a) → times points order (record { at = a; on = s.on_curve })
    ≡ points.identity
zero_from a s = curves.same_point p d jubjub_is_complete _ _
    (at-times order (record { at = a; on = s.on_curve }) ∙ s.of_order)

pub sum_in_subgroup : (a b : Coordinates) → IsInSubgroup a → IsInSubgroup b → IsInSubgroup (sum p d a b)
sum_in_subgroup a b s t =
    let one : Point = record { at = a; on = s.on_curve } in
    let two : Point = record { at = b; on = t.on_curve } in
    record {
      on_curve = sum_closed p d has_inverses complete a b s.on_curve t.on_curve;
      of_order =
          sym (at-times order (points.plus one two)) ∙ ap (λ (x : Point). x.at) (times-plus points_laws order one two
          ∙ ap (λ x. points.plus x (times points order two)) (zero_from a s) ∙ points_laws.left_identity _
          ∙ zero_from b t);
    }

pub neutral_in_subgroup : IsInSubgroup neutral
neutral_in_subgroup = record {
  on_curve = neutral_on_curve p d has_inverses complete;
  of_order = sym (at-times order points.identity) ∙ ap (λ (x : Point). x.at) (times-identity points_laws order);
}

pub negative_in_subgroup : (a : Coordinates) → IsInSubgroup a → IsInSubgroup (negative p a)
negative_in_subgroup a s =
    let one : Point = record { at = a; on = s.on_curve } in
    record {
      on_curve = negative_closed p d has_inverses complete a s.on_curve;
      of_order =
          sym (at-times order (points.opposite one)) ∙ ap (λ (x : Point). x.at)
          (sym (right_identity points_laws _) ∙ ap (points.plus (times points order (points.opposite one)))
          (sym (zero_from a s)) ∙ sym (times-plus points_laws order (points.opposite one) one)
          ∙ ap (times points order) (points_laws.left_opposite one) ∙ times-identity points_laws order);
    }
