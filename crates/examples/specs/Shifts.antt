-- The laws of a group of one's own, which wraps the numbers below a modulus.
use Rattle.std.proofs.Common.{◌≡◌, ℕ, ◌*◌, ◌%◌, ◌==◌, refl, sym, ◌∙◌, ap}
use Rattle.std.proofs.Math.Nat.{zero-mod}
use Rattle.std.proofs.lemmas.Bool.Decides.{Decides-eqb}
use Rattle.std.specs.Bool.{Decides}
use Rattle.ark_groups.specs.declared.ff.modulus.Modulus.{Ghosts}
use Rattle.ark_groups.specs.declared.ff.fp.Fp.{Fp}
use Rattle.examples.specs.declared.bounds.shift.Shift.{Shift}
use Rattle.ark_groups.specs.Laws.Fp.{fp_same}
use Rattle.ark_groups.specs.Group.{Group, IsCommutativeGroup, times}
use Rattle.ark_groups.specs.Laws.Group.{fp_group, fp_group_laws, fp_order, value-times, Wrapping, wrapped_group}
use Rattle.ark_groups.specs.Laws.Group.{wrapped_laws, times-wrapped}

module _ {M : Type 0} {g : Ghosts M} where
  -- how the elements wrap those of the field
  abbrev pub wrapping : Wrapping (Fp M g) (Shift M g)
  wrapping = record {
    wrap = λ x. record { 0 = x };
    unwrap = λ x. x.0;
    unwrap-wrap = λ x. refl;
    wrap-unwrap = λ x. refl;
  }

  abbrev pub shifts : Group (Shift M g)
  shifts = wrapped_group wrapping fp_group

  pub shift_laws : IsCommutativeGroup shifts
  shift_laws = wrapped_laws wrapping fp_group fp_group_laws

  pub shift_order : (x : Shift M g) → times shifts g.P x ≡ shifts.identity
  shift_order x = times-wrapped wrapping fp_group g.P x ∙ ap wrapping.wrap (fp_order x.0)

  pub same_wrapped : (x y : Shift M g) → x.0 ≡ y.0 → x ≡ y
  same_wrapped x y e = λ i. record { 0 = e i }

  pub same_shift : (x y : Shift M g) → x.0.value ≡ y.0.value → x ≡ y
  same_shift x y e = same_wrapped x y (fp_same x.0 y.0 e)

  pub is_none : (x : Shift M g) → x.0.value ≡ 0 → x ≡ shifts.identity
  is_none x e = same_shift x shifts.identity (e ∙ sym (zero-mod g.P))

  pub shift-times : (n : ℕ) (x : Shift M g) → (times shifts n x).0.value ≡ (n * x.0.value) % g.P
  shift-times n x = ap (λ (y : Shift M g). y.0.value) (times-wrapped wrapping fp_group n x) ∙ value-times n x.0

  pub shift-Decides : (x y : Shift M g) → Decides (x.0.value == y.0.value) (x ≡ y)
  shift-Decides x y =
      let by_number = Decides-eqb x.0.value y.0.value in
      (λ t. same_shift x y (by_number.0 t), λ e. by_number.1 (ap (λ (z : Shift M g). z.0.value) e))
