-- The points of a curve as a commutative group.
use Rattle.std.proofs.Common.{◌≡◌, ℕ, zero, suc, refl, ap}
use Rattle.std.proofs.Math.Nat.{ℕ_set}
use Rattle.std.specs.Coded.{le_prop}
use mathlib.Core.HLevel.{is_prop→PathP}
use Rattle.ark_groups.specs.Group.{Group, IsCommutativeGroup, times}
use Rattle.edwards.specs.Edwards.{Coordinates, IsOnCurve, sum, neutral, negative, edwards}
use Rattle.edwards.specs.Curves.{IsComplete}
use Rattle.edwards.specs.Laws.Completeness.{has_inverses, complete}
use Rattle.edwards.specs.Laws.CurveLaws.{NoCrossIsOne, sum_closed, neutral_on_curve, negative_closed}
use Rattle.edwards.specs.Laws.CurveLaws.{sum_comm, sum_neutral, sum_negative, sum_assoc}
use Rattle.edwards.specs.Laws.Quotients.{HasInverses}

pub on_curve_alike : (m d : ℕ) (a : Coordinates) (u v : IsOnCurve m d a) → u ≡ v
on_curve_alike m d a u v = λ i. record {
  x_below = le_prop u.x_below v.x_below i;
  y_below = le_prop u.y_below v.y_below i;
  equation = ℕ_set _ _ u.equation v.equation i;
}

module _ (p d : ℕ) (k : IsComplete p d) where
  -- coordinates on the curve
  pub record Point : Type 0 where
    pub at : Coordinates
    pub on : IsOnCurve p d at

  pub same_point : (a b : Point) → a.at ≡ b.at → a ≡ b
  same_point a b e = λ i. record {
    at = e i;
    on = is_prop→PathP (λ j. IsOnCurve p d (e j)) (λ j. on_curve_alike p d (e j)) a.on b.on i;
  }

  abbrev f : HasInverses p
  f = has_inverses p d k

  abbrev all : NoCrossIsOne p d
  all = complete p d k

  abbrev pub points : Group Point
  points = record {
    identity = record { at = neutral; on = neutral_on_curve p d f all };
    plus = λ a b. record { at = sum p d a.at b.at; on = sum_closed p d f all a.at b.at a.on b.on };
    opposite = λ a. record { at = negative p a.at; on = negative_closed p d f all a.at a.on };
  }

  pub points_laws : IsCommutativeGroup points
  points_laws = record {
    assoc = λ a b c. same_point _ _ (sum_assoc p d f all a.at b.at c.at a.on b.on c.on);
    comm = λ a b. same_point _ _ (sum_comm p d f all a.at b.at);
    left_identity = λ a. same_point _ _ (sum_neutral p d f all a.at a.on);
    left_opposite = λ a. same_point _ _ (sum_negative p d f all a.at a.on);
  }

  -- a multiple of a point has the multiple of its coordinates
  pub at-times : (n : ℕ) (a : Point) → (times points n a).at ≡ times (edwards p d) n a.at
  at-times zero a = refl
  at-times (suc n) a = ap (λ t. sum p d t a.at) (at-times n a)
