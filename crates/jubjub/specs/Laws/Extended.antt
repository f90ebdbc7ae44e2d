-- Four coordinates that stand for an element.
use Rattle.std.proofs.Common.{◌≡◌, sym, subst}
use Rattle.std.proofs.Math.Nat.{ℕ_set}
use Rattle.jubjub.specs.Edwards.{Coordinates}
use Rattle.jubjub.specs.Jubjub.{p, IsInSubgroup}
use Rattle.jubjub.specs.Extended.{Extended, Stands, affine_at, IsInside}
use Rattle.jubjub.specs.Values.{value}
use Rattle.edwards.specs.Laws.CurveLaws.{same_coordinates}
use Rattle.jubjub.specs.Laws.Modulus.{has_inverses}
use Rattle.jubjub.specs.Laws.Points.{in_subgroup_alike}
use Rattle.edwards.specs.Laws.Quotients.{is_over}

never_alike : (a b : ⊥) → a ≡ b
never_alike a b = absurd a

stands_alike : (e : Extended) (a : Coordinates) (u v : Stands e a) → u ≡ v
stands_alike e a u v = λ i. record {
  some = λ none. never_alike (u.some none) (v.some none) i;
  first = ℕ_set _ _ u.first v.first i;
  second = ℕ_set _ _ u.second v.second i;
  both = ℕ_set _ _ u.both v.both i;
}

pub inside_alike : (e : Extended) (u v : IsInside e) → u ≡ v
inside_alike e u v = λ i. record {
  stands = stands_alike e (affine_at e) u.stands v.stands i;
  in_subgroup = in_subgroup_alike (affine_at e) u.in_subgroup v.in_subgroup i;
}

-- the coordinates of the point that four coordinates stand for
pub stands_at : (e : Extended) (a : Coordinates) → IsInSubgroup a → Stands e a → affine_at e ≡ a
stands_at e a s of_e = sym (same_coordinates a (affine_at e)
    (is_over p has_inverses a.x (value e.x) (value e.z) of_e.some s.on_curve.x_below (sym of_e.first))
    (is_over p has_inverses a.y (value e.y) (value e.z) of_e.some s.on_curve.y_below (sym of_e.second)))

pub stands_inside : (e : Extended) (a : Coordinates) → IsInSubgroup a → Stands e a → IsInside e
stands_inside e a s of_e =
    let same = stands_at e a s of_e in
    record { stands = subst (Stands e) (sym same) of_e; in_subgroup = subst IsInSubgroup (sym same) s }
