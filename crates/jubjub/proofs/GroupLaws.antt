-- Elements of the prime subgroup by their coordinates.
use Rattle.std.proofs.Common.{◌≡◌, ℕ, sym, ◌∙◌, subst}
use Rattle.ark_groups.specs.Group.{times}
use Rattle.jubjub.specs.declared.element.Jubjub.{Jubjub}
use Rattle.jubjub.specs.Edwards.{Coordinates}
use Rattle.jubjub.specs.Jubjub.{curve, IsInSubgroup}
use Rattle.jubjub.specs.Values.{Fr, value}
use Rattle.jubjub.specs.Elements.{coordinates, jubjub}
use Rattle.jubjub.specs.Laws.Elements.{same_element, coordinates_of}
use Rattle.edwards.specs.Laws.CurveLaws.{same_coordinates}
use Rattle.jubjub.specs.Laws.Group.{coordinates-times}

-- ---- elements by two elements of the field

-- what has the coordinates of a point in the subgroup is in the subgroup
pub entry : (x y : Fr) (a : Coordinates) → value x ≡ a.x → value y ≡ a.y → IsInSubgroup a
    → IsInSubgroup (coordinates_of x y)
entry x y a is_x is_y s = subst IsInSubgroup (sym (same_coordinates (coordinates_of x y) a is_x is_y)) s

pub made_at : (e : Jubjub) (x y : Fr) (a : Coordinates) → value x ≡ a.x → value y ≡ a.y
    → coordinates e ≡ coordinates_of x y → coordinates e ≡ a
made_at e x y a is_x is_y made = made ∙ same_coordinates (coordinates_of x y) a is_x is_y

pub made_is : (e f : Jubjub) (x y : Fr) (a : Coordinates) → value x ≡ a.x → value y ≡ a.y
    → coordinates e ≡ coordinates_of x y → coordinates f ≡ a → e ≡ f
made_is e f x y a is_x is_y made of_f = same_element e f (made_at e x y a is_x is_y made ∙ sym of_f)

pub times_in_subgroup : (n : ℕ) (a : Jubjub) → IsInSubgroup (times curve n (coordinates a))
times_in_subgroup n a = subst IsInSubgroup (coordinates-times n a) ((times jubjub n a).in_subgroup)
