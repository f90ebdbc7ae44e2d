-- The elements of the prime subgroup are a commutative group.
use Rattle.std.proofs.Common.{◌≡◌, ℕ, zero, suc, ◌==◌, ◌&&◌, Bool, refl, sym, ◌∙◌, ap}
use Rattle.std.specs.Bool.{Decides}
use Rattle.std.proofs.lemmas.Bool.{and_parts, and_from}
use Rattle.ark_groups.specs.Group.{IsCommutativeGroup, times}
use Rattle.ark_groups.specs.Words.{number}
use Rattle.ark_wide_fields.specs.Laws.Fp256.{wide_equal_if_same}
use Rattle.jubjub.specs.declared.element.Jubjub.{Jubjub}
use Rattle.jubjub.specs.Edwards.{sum, neutral, negative}
use Rattle.jubjub.specs.Jubjub.{p, d, order, curve}
use Rattle.jubjub.specs.contracts.fr.JubjubFrModulusWideModulus.TheImpl.{ghosts as scalar_ghosts}
use Rattle.jubjub.specs.Values.{Fr}
use Rattle.jubjub.specs.Elements.{coordinates, jubjub}
use Rattle.jubjub.specs.Laws.Elements.{kept, same_element}
use Rattle.jubjub.specs.Laws.Modulus.{has_inverses}
use Rattle.jubjub.specs.Laws.Completeness.{complete}
use Rattle.edwards.specs.Laws.CurveLaws.{same_coordinates, sum_comm, sum_neutral, sum_negative, sum_assoc}
use Rattle.jubjub.specs.Laws.Points.{neutral_in_subgroup, sum_in_subgroup, negative_in_subgroup}

pub at-identity : coordinates jubjub.identity ≡ neutral
at-identity = kept neutral neutral_in_subgroup

pub at-plus : (a b : Jubjub) → coordinates (jubjub.plus a b) ≡ sum p d (coordinates a) (coordinates b)
at-plus a b = kept (sum p d (coordinates a) (coordinates b))
    (sum_in_subgroup (coordinates a) (coordinates b) a.in_subgroup b.in_subgroup)

pub at-opposite : (a : Jubjub) → coordinates (jubjub.opposite a) ≡ negative p (coordinates a)
at-opposite a = kept (negative p (coordinates a)) (negative_in_subgroup (coordinates a) a.in_subgroup)

pub jubjub_laws : IsCommutativeGroup jubjub
jubjub_laws = record {
  assoc = λ a b c. same_element (jubjub.plus (jubjub.plus a b) c) (jubjub.plus a (jubjub.plus b c))
      (at-plus (jubjub.plus a b) c ∙ ap (λ t. sum p d t (coordinates c)) (at-plus a b)
      ∙ sum_assoc p d has_inverses complete (coordinates a) (coordinates b) (coordinates c) a.in_subgroup.on_curve
      b.in_subgroup.on_curve c.in_subgroup.on_curve
      ∙ ap (λ t. sum p d (coordinates a) t) (sym (at-plus b c)) ∙ sym (at-plus a (jubjub.plus b c)));
  comm = λ a b. same_element (jubjub.plus a b) (jubjub.plus b a)
      (at-plus a b ∙ sum_comm p d has_inverses complete (coordinates a) (coordinates b) ∙ sym (at-plus b a));
  left_identity = λ a. same_element (jubjub.plus jubjub.identity a) a
      (at-plus jubjub.identity a ∙ ap (λ t. sum p d t (coordinates a)) at-identity
      ∙ sum_neutral p d has_inverses complete (coordinates a) a.in_subgroup.on_curve);
  left_opposite = λ a. same_element (jubjub.plus (jubjub.opposite a) a) jubjub.identity
      (at-plus (jubjub.opposite a) a ∙ ap (λ t. sum p d t (coordinates a)) (at-opposite a)
      ∙ sum_negative p d has_inverses complete (coordinates a) a.in_subgroup.on_curve ∙ sym at-identity);
}

pub coordinates-times : (n : ℕ) (a : Jubjub) → coordinates (times jubjub n a) ≡ times curve n (coordinates a)
coordinates-times zero a = at-identity
coordinates-times (suc n) a =
    at-plus (times jubjub n a) a ∙ ap (λ t. sum p d t (coordinates a)) (coordinates-times n a)

pub of_order : (a : Jubjub) → times jubjub order a ≡ jubjub.identity
of_order a = same_element (times jubjub order a) jubjub.identity
    (coordinates-times order a ∙ a.in_subgroup.of_order ∙ sym at-identity)

-- the scalars' modulus is the order
pub modulus_is_order : number scalar_ghosts.P ≡ order
unfolding order
modulus_is_order = refl

pub of_modulus : (a : Jubjub) → times jubjub (number scalar_ghosts.P) a ≡ jubjub.identity
of_modulus a = ap (λ n. times jubjub n a) modulus_is_order ∙ of_order a

-- ---- equality

-- elements of the field are compared word by word
abbrev pub words_eq : Fr → Fr → Bool
words_eq a b =
    (a.form.w0 == b.form.w0) && ((a.form.w1 == b.form.w1) && ((a.form.w2 == b.form.w2) && (a.form.w3 == b.form.w3)))

pub same_if_equal : (x y : Jubjub) → Decides (words_eq x.x y.x && words_eq x.y y.y) (x ≡ y)
same_if_equal x y = (
  λ t.
      let both = and_parts _ _ t in
      same_element x y (same_coordinates (coordinates x) (coordinates y) ((wide_equal_if_same x.x y.x).0 both.0)
      ((wide_equal_if_same x.y y.y).0 both.1)),
  λ e. and_from _ _ ((wide_equal_if_same x.x y.x).1 (ap (λ (z : Jubjub). (coordinates z).x) e))
      ((wide_equal_if_same x.y y.y).1 (ap (λ (z : Jubjub). (coordinates z).y) e)),
)
