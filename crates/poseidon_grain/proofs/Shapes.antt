-- Parameters over the generator's constants and matrix have the shape of parameters, so that no other refusal is left.
use Rattle.std.proofs.Common.{◌≡◌, inl, inr, ℕ, zero, suc, ◌+◌, ◌<◌, ◌≤◌, ◌==◌, ◌&&◌, nat_lt, Bool, true, false, if◌then◌else◌, List, [], ◌∷◌, length, get_or, Ok, Err, refl, ap, ◌∙◌, arith, eq-eqb}
use Rattle.std.specs.List.{list_all}
use Rattle.std.proofs.lemmas.Bool.Decides.{nat_tests}
use Rattle.std.proofs.lemmas.List.{length-map}
use Rattle.ark_base.specs.declared.error.Error.{Error}
use Rattle.ark_base.specs.declared.error.Error.TheVariants.{GenericError}
use Rattle.ark_base.specs.declared.error.Refusal.TheVariants.{FieldTooSmall, ParameterShape, ZeroRate}
use Rattle.ark_sponge.specs.Permutation.{Parameters, has_poseidon_shape, is_matrix, lawful_parameters, width}
use Rattle.poseidon_grain.specs.Constants.{AreGenerated, Instance, IsCauchy, IsParameterFault, constants_drawn, xs_drawn, ys_drawn}
use Rattle.poseidon_grain.specs.Grain.{below_drawn, list_drawn, remainder_drawn, seeded}

-- ---- lists that are drawn

pub length-drawn : {A : Type 0} (draw : ℕ → A × ℕ) (count register : ℕ)
    → length (list_drawn draw count register).0 ≡ count
unfolding list_drawn
length-drawn draw zero register = refl
length-drawn draw (suc count) register = ap suc (length-drawn draw count (draw register).1)

both : (a b : Bool) → a ≡ true → b ≡ true → (a && b) ≡ true
both true b first second = second
both false b first second = absurd cc

-- each value passes a test that each draw does
each-drawn : {A : Type 0} (draw : ℕ → A × ℕ) (test : A → Bool) → ((register : ℕ) → test (draw register).0 ≡ true)
    → (count register : ℕ) → list_all test (list_drawn draw count register).0 ≡ true
unfolding list_drawn
each-drawn draw test each zero register = refl
each-drawn draw test each (suc count) register =
    both (test (draw register).0) (list_all test (list_drawn draw count (draw register).1).0) (each register)
    (each-drawn draw test each count (draw register).1)

-- rows that are as long, place by place
rows-long : (len : ℕ) (rows : List (List ℕ)) → ((i : ℕ) → i < length rows → length (get_or rows i []) ≡ len)
    → list_all (λ row. length row == len) rows ≡ true
rows-long len [] each = refl
rows-long len (row ∷ rows) each =
    both (length row == len) (list_all (λ row. length row == len) rows)
    (eq-eqb (length row) len (each 0 (omega arith)))
    (rows-long len rows (λ i below. each (suc i) (omega (arith, below))))

-- ---- the shape of parameters

module _ (a : Instance) where
  constants-matrix : is_matrix (a.full_rounds + a.partial_rounds) a.width (constants_drawn a).0 ≡ true
  constants-matrix =
      let element = below_drawn a.modulus a.digits in
      let row = list_drawn element a.width in
      let first = seeded a.digits a.width a.full_rounds a.partial_rounds in
      let rounds = a.full_rounds + a.partial_rounds in
      both (length (constants_drawn a).0 == rounds) _
      (eq-eqb (length (constants_drawn a).0) rounds (length-drawn row rounds first))
      (each-drawn row (λ (t : List ℕ). length t == a.width)
      (λ register. eq-eqb (length (row register).0) a.width (length-drawn element a.width register)) rounds first)

  cauchy-matrix : (rows : List (List ℕ)) → IsCauchy a.modulus (xs_drawn a).0 (ys_drawn a).0 rows
      → is_matrix a.width a.width rows ≡ true
  cauchy-matrix rows cauchy =
      let draw = remainder_drawn a.modulus a.digits in
      let xs : length (xs_drawn a).0 ≡ a.width = length-drawn draw a.width _ in
      let ys : length (ys_drawn a).0 ≡ a.width = length-drawn draw a.width _ in
      both (length rows == a.width) _ (eq-eqb (length rows) a.width (cauchy.long ∙ xs))
      (rows-long a.width rows (λ i below.
      (cauchy.each i (omega (arith, below, cauchy.long))).long
      ∙ length-map (ys_drawn a).0 (λ y. _) ∙ ys))

  pub generated-shape : (c : Parameters) → AreGenerated a c.ark c.mds → width c ≡ a.width
      → c.full_rounds ≡ a.full_rounds → c.partial_rounds ≡ a.partial_rounds → has_poseidon_shape c ≡ true
  generated-shape c generated wide full partial =
      rw (wide, full, partial, generated.constants)
      (both (is_matrix (a.full_rounds + a.partial_rounds) a.width (constants_drawn a).0)
      (is_matrix a.width a.width c.mds) constants-matrix (cauchy-matrix c.mds generated.matrix))

-- ---- what is left

module _ (bits : ℕ) (c : Parameters) (shaped : has_poseidon_shape c ≡ true) (error : Error) where
  last : (b : Bool) → b ≡ true → (if b then Ok c else Err (GenericError ParameterShape)) ≡ Err error → ⊥
  last true shape is = cc
  last false shape is = cc

  rate-fault : (b : Bool) → (c.rate == 0) ≡ b → 9 ≤ bits
      → (if b then Err (GenericError ZeroRate)
      else if has_poseidon_shape c then Ok c else Err (GenericError ParameterShape)) ≡ Err error
      → IsParameterFault bits c.rate error
  rate-fault true none wide is = inr (inr (wide, grind (arith, nat_tests, none), cc))
  rate-fault false some wide is = absurd (last (has_poseidon_shape c) shaped is)

  size-fault : (b : Bool) → nat_lt bits 9 ≡ b
      → (if b then Err (GenericError FieldTooSmall)
      else if c.rate == 0 then Err (GenericError ZeroRate)
      else if has_poseidon_shape c then Ok c else Err (GenericError ParameterShape)) ≡ Err error
      → IsParameterFault bits c.rate error
  size-fault true small is = inr (inl (grind (arith, nat_tests, small), cc))
  size-fault false wide is = rate-fault (c.rate == 0) refl (grind (arith, nat_tests, wide)) is

  pub parameter-fault : lawful_parameters bits c ≡ Err error → IsParameterFault bits c.rate error
  parameter-fault is = size-fault (nat_lt bits 9) refl is
