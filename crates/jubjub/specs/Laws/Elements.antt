-- Elements of the prime subgroup are their coordinates.
use Rattle.std.proofs.Common.{◌≡◌, ℕ, ◌*◌, ◌%◌, sym, ◌∙◌, ap, subst, mod-eq_of_lt}
use Rattle.std.proofs.Math.Nat.{ℕ_set}
use mathlib.Core.HLevel.{is_prop→PathP}
use Rattle.ark_wide_fields.specs.Laws.Fp256.{wide_of, wide_of-value, wide_same}
use Rattle.ark_wide_fields.specs.contracts.moduli.Bls12_381FrModulusWideModulus.TheImpl.{ghosts}
use Rattle.jubjub.specs.declared.element.Jubjub.{Jubjub}
use Rattle.jubjub.specs.Edwards.{Coordinates}
use Rattle.jubjub.specs.Jubjub.{p, d, IsInSubgroup}
use Rattle.jubjub.specs.Values.{Fr, value}
use Rattle.edwards.specs.Laws.CurveLaws.{same_coordinates}
use Rattle.jubjub.specs.Laws.Points.{in_subgroup_alike}

-- the coordinates that two elements of the field are
abbrev pub coordinates_of : Fr → Fr → Coordinates
coordinates_of x y = record { x = value x; y = value y }

-- the element of the field that a number below p is
abbrev pub fr_of : ℕ → Fr
fr_of n = wide_of n

-- the coordinates that are kept are those that were given
pub kept : (a : Coordinates) → IsInSubgroup a → coordinates_of (fr_of a.x) (fr_of a.y) ≡ a
kept a s = same_coordinates (coordinates_of (fr_of a.x) (fr_of a.y)) a
    (wide_of-value ghosts a.x ∙ mod-eq_of_lt s.on_curve.x_below)
    (wide_of-value ghosts a.y ∙ mod-eq_of_lt s.on_curve.y_below)

-- 2 d x y of the coordinates that are kept
pub crossed_kept : (a : Coordinates) → IsInSubgroup a
    → value (fr_of (2 * d * a.x * a.y)) ≡ 2 * d * value (fr_of a.x) * value (fr_of a.y) % p
crossed_kept a s = wide_of-value ghosts (2 * d * a.x * a.y)
    ∙ ap (λ (b : Coordinates). 2 * d * b.x * b.y % p) (sym (kept a s))

-- the element of coordinates in the subgroup
abbrev pub element : (a : Coordinates) → IsInSubgroup a → Jubjub
element a s = record {
  x = fr_of a.x;
  y = fr_of a.y;
  crossed = fr_of (2 * d * a.x * a.y);
  in_subgroup = subst IsInSubgroup (sym (kept a s)) s;
  crossed_is = crossed_kept a s;
}

-- elements with the same coordinates are equal
pub same_element : (e f : Jubjub) → coordinates_of e.x e.y ≡ coordinates_of f.x f.y → e ≡ f
same_element e f same =
    let first : e.x ≡ f.x = wide_same e.x f.x (ap (λ (a : Coordinates). a.x) same) in
    let second : e.y ≡ f.y = wide_same e.y f.y (ap (λ (a : Coordinates). a.y) same) in
    let third : e.crossed ≡ f.crossed = wide_same e.crossed f.crossed
    (e.crossed_is ∙ ap (λ (a : Coordinates). 2 * d * a.x * a.y % p) same ∙ sym f.crossed_is) in
    λ i. record {
      x = first i;
      y = second i;
      crossed = third i;
      in_subgroup = is_prop→PathP (λ j. IsInSubgroup (coordinates_of (first j) (second j)))
          (λ j. in_subgroup_alike (coordinates_of (first j) (second j))) e.in_subgroup f.in_subgroup i;
      crossed_is = is_prop→PathP (λ j. value (third j) ≡ 2 * d * value (first j) * value (second j) % p)
          (λ j. ℕ_set _ _) e.crossed_is f.crossed_is i;
    }
