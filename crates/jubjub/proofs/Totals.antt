-- What sums under way stand for.
use Rattle.std.proofs.Common.{◌≡◌, sym, ◌∙◌, ap, subst}
use Rattle.jubjub.specs.declared.element.Jubjub.{Jubjub}
use Rattle.jubjub.specs.declared.element.sums.JubjubSum.{JubjubSum}
use Rattle.jubjub.specs.Edwards.{sum}
use Rattle.jubjub.specs.Jubjub.{p, d}
use Rattle.jubjub.specs.Elements.{coordinates, jubjub}
use Rattle.jubjub.specs.Extended.{Extended, Stands, affine_at, IsInside}
use Rattle.jubjub.specs.Sums.{total}
use Rattle.jubjub.specs.Laws.Elements.{kept, same_element}
use Rattle.jubjub.specs.Laws.Extended.{stands_at, stands_inside}
use Rattle.jubjub.specs.Laws.Group.{at-plus}

pub at-total : (s : JubjubSum) → coordinates (total s) ≡ affine_at s.point
at-total s = kept (affine_at s.point) s.inside.in_subgroup

-- four coordinates that stand for an element's
pub element_inside : (r : Extended) (e : Jubjub) → Stands r (coordinates e) → IsInside r
element_inside r e of_r = stands_inside r (coordinates e) e.in_subgroup of_r

pub total_is : (s : JubjubSum) (r : Extended) (e : Jubjub) → s.point ≡ r → Stands r (coordinates e) → total s ≡ e
total_is s r e is of_r = same_element (total s) e
    (at-total s ∙ ap affine_at is ∙ stands_at r (coordinates e) e.in_subgroup of_r)

-- what stands for the sum of a sum's coordinates and of an element's stands for their sum
pub sum_with : (r : Extended) (a : JubjubSum) (e : Jubjub) → Stands r (sum p d (affine_at a.point) (coordinates e))
    → Stands r (coordinates (jubjub.plus (total a) e))
sum_with r a e of_r =
    subst (Stands r) (sym (at-plus (total a) e ∙ ap (λ t. sum p d t (coordinates e)) (at-total a))) of_r

-- the same of two sums
pub sum_stands : (r : Extended) (a b : JubjubSum) → Stands r (sum p d (affine_at a.point) (affine_at b.point))
    → Stands r (coordinates (jubjub.plus (total a) (total b)))
sum_stands r a b of_r =
    sum_with r a (total b) (subst (λ t. Stands r (sum p d (affine_at a.point) t)) (sym (at-total b)) of_r)
