-- The laws of the canonical bytes of what a sponge is set up with.
use Rattle.std.proofs.Common.{◌≡◌, ℕ, ◌+◌, ◌<◌, ◌≤◌, Bool, true, false, cond, ltb, eqb, List, ◌++◌, length, take, Ok, Err, refl, ap, subst, ◌∙◌, arith}
use Rattle.std.proofs.lemmas.List.{length-append}
use Rattle.ark_base.specs.declared.error.Error.{Error}
use Rattle.ark_base.specs.declared.error.Error.TheVariants.{GenericError}
use Rattle.ark_base.specs.declared.error.Refusal.TheVariants.{FieldTooSmall, ZeroRate, ParameterShape}
use Rattle.ark_base.specs.declared.error.SerializationError.{SerializationError}
use Rattle.ark_base.specs.declared.error.SerializationError.TheVariants.{Truncated}
use Rattle.ark_base.specs.Outcome.{Outcome}
use Rattle.ark_base.specs.Reading.{Reading, IsBytes, IsCanonical}
use Rattle.ark_base.specs.Spelling.{IsWord, word, word_at, IsCounted, counted_list, counted_list_at, BothFit, both, both_at, made_at}
use Rattle.ark_base.specs.Digits.{bytes_of_number, IsBelow, below_at, bytes_for}
use Rattle.ark_base.specs.Laws.Steps.{bind_ok, done_injective}
use Rattle.ark_base.specs.Laws.Parts.{both_laws, made_laws}
use Rattle.ark_base.specs.Laws.Lists.{counted_list_laws, counted_list_is_long}
use Rattle.ark_base.specs.Laws.Numbers.{word_laws, word_is_long}
use Rattle.ark_groups.specs.Field.{IsFieldModulus}
use Rattle.ark_groups.specs.Laws.Fp.{below_modulus_laws}
use Rattle.ark_sponge.specs.Permutation.{Parameters, has_poseidon_shape, lawful_parameters}
use Rattle.ark_sponge.specs.ConfigBytes.{fields_of, of_fields, HaveSpelling, fields_spelling, fields_at}
use Rattle.ark_sponge.specs.ConfigBytes.{let_through, tested_at, IsSpelled, parameters_spelling, parameters_by, parameters_at}

-- ---- the fields in turn

module _ {V : Type 0} (fits : V → Type 0) (spell : V → List ℕ) (reads : List ℕ → Reading V)
    (laws : IsCanonical fits spell reads) where
  rows_laws : IsCanonical (IsCounted (IsCounted fits)) (counted_list (counted_list spell))
      (counted_list_at (counted_list_at reads))
  rows_laws = counted_list_laws (IsCounted fits) (counted_list spell) (counted_list_at reads)
      (counted_list_laws fits spell reads laws)

  -- a number, and what stands behind it
  behind_word : {B : Type 0} (fits_second : B → Type 0) (spell_second : B → List ℕ) (second : List ℕ → Reading B)
      → IsCanonical fits_second spell_second second
      → IsCanonical (BothFit IsWord fits_second) (both word spell_second) (both_at word_at second)
  behind_word fits_second spell_second second = both_laws IsWord word word_at fits_second spell_second second word_laws

  -- rows, and what stands behind them
  behind_rows : {B : Type 0} (fits_second : B → Type 0) (spell_second : B → List ℕ) (second : List ℕ → Reading B)
      → IsCanonical fits_second spell_second second
      → IsCanonical (BothFit (IsCounted (IsCounted fits)) fits_second)
      (both (counted_list (counted_list spell)) spell_second)
      (both_at (counted_list_at (counted_list_at reads)) second)
  behind_rows fits_second spell_second second =
      both_laws (IsCounted (IsCounted fits)) (counted_list (counted_list spell))
      (counted_list_at (counted_list_at reads)) fits_second spell_second second rows_laws

  fields_laws : IsCanonical (HaveSpelling fits) (fields_spelling spell) (fields_at reads)
  fields_laws =
      behind_word _ _ _ (behind_word _ _ _ (behind_word _ _ _ (behind_rows _ _ _ (behind_rows _ _ _
      (behind_word IsWord word word_at word_laws)))))

-- ---- a test at the end

let_through-Ok : {V : Type 0} (outcome : Outcome V) (rest : List ℕ) (x : V × List ℕ) → let_through outcome rest ≡ Ok x
    → (outcome ≡ Ok x.0) × (rest ≡ x.1)
let_through-Ok {V} (Ok v) rest x e =
    let same : (v, rest) ≡ x = done_injective {A = V × List ℕ} {E = SerializationError} (v, rest) x e in
    (ap (λ (y : V × List ℕ). Ok y.0) same, ap (λ (y : V × List ℕ). y.1) same)
let_through-Ok (Err refusal) rest x e = absurd cc

module _ {V : Type 0} (test : V → Outcome V) (same : (v w : V) → test v ≡ Ok w → v ≡ w) (fits : V → Type 0)
    (spell : V → List ℕ) (reads : List ℕ → Reading V) (laws : IsCanonical fits spell reads) where
  tested_again : (v : V) (rest : List ℕ) → fits v × (test v ≡ Ok v)
      → tested_at test reads (spell v ++ rest) ≡ Ok (v, rest)
  unfolding tested_at
  tested_again v rest h = rw (laws.again v rest h.0, h.1) refl

  tested_spelled : (bytes : List ℕ) (w : V) (rest : List ℕ) → IsBytes bytes → tested_at test reads bytes ≡ Ok (w, rest)
      → (fits w × (test w ≡ Ok w)) × (bytes ≡ spell w ++ rest)
  unfolding tested_at
  tested_spelled bytes w rest fitting e =
      let step = bind_ok (reads bytes) (λ v. let_through (test v.0) v.1) (w, rest) e in
      let v = step.0.0 in
      let one = laws.spelled bytes v step.0.1 fitting step.1 in
      let through = let_through-Ok (test v) step.0.1 (w, rest) step.2 in
      let is_w : v ≡ w = same v w through.0 in
      let parts : (fits v × (test v ≡ Ok w)) × (bytes ≡ spell v ++ step.0.1) = ((one.0, through.0), one.1) in
      let behind : (fits v × (test v ≡ Ok w)) × (bytes ≡ spell v ++ rest) =
      (parts.0, parts.1 ∙ ap (λ t. spell v ++ t) through.1) in
      subst (λ u. (fits u × (test u ≡ Ok w)) × (bytes ≡ spell u ++ rest)) is_w behind

  tested_cut : (v : V) (n : ℕ) → fits v × (test v ≡ Ok v) → n < length (spell v)
      → tested_at test reads (take n (spell v)) ≡ Err Truncated
  unfolding tested_at
  tested_cut v n h below = rw (laws.cut v n h.0 below) refl

  tested_laws : IsCanonical (λ v. fits v × (test v ≡ Ok v)) spell (tested_at test reads)
  tested_laws = record { again = tested_again; spelled = tested_spelled; cut = tested_cut }

-- ---- parameters

guarded-Ok : {A : Type 0} (b : Bool) (refusal : Error) (outcome : Outcome A) (x : A)
    → cond b (Err refusal) outcome ≡ Ok x → outcome ≡ Ok x
guarded-Ok true refusal outcome x e = absurd cc
guarded-Ok false refusal outcome x e = e

kept-Ok : {A : Type 0} (b : Bool) (refusal : Error) (v w : A) → cond b (Ok v) (Err refusal) ≡ Ok w → v ≡ w
kept-Ok true refusal v w e = cc
kept-Ok false refusal v w e = absurd cc

lawful_parameters-same : (bits : ℕ) (c d : Parameters) → lawful_parameters bits c ≡ Ok d → c ≡ d
lawful_parameters-same bits c d e =
    let wide = guarded-Ok (ltb bits 9) (GenericError FieldTooSmall) _ d e in
    let begun = guarded-Ok (eqb c.rate 0) (GenericError ZeroRate) _ d wide in
    kept-Ok (has_poseidon_shape c) (GenericError ParameterShape) c d begun

-- elements that have one spelling each make parameters that have one
pub parameters_by_laws : (bits : ℕ) (fits : ℕ → Type 0) (spell : ℕ → List ℕ) (reads : List ℕ → Reading ℕ)
    → IsCanonical fits spell reads
    → IsCanonical (λ c. HaveSpelling fits (fields_of c) × (lawful_parameters bits c ≡ Ok c))
    (λ c. fields_spelling spell (fields_of c)) (parameters_by reads bits)
parameters_by_laws bits fits spell reads laws =
    tested_laws (lawful_parameters bits) (lawful_parameters-same bits) (λ c. HaveSpelling fits (fields_of c))
    (λ c. fields_spelling spell (fields_of c)) (made_at of_fields (fields_at reads))
    (made_laws of_fields fields_of (λ c. refl) (λ f. refl) (HaveSpelling fits) (fields_spelling spell) (fields_at reads)
    (fields_laws fits spell reads laws))

pub parameters_laws : (p bits : ℕ) → IsFieldModulus p bits
    → IsCanonical (IsSpelled p bits) (parameters_spelling bits) (parameters_at p bits)
parameters_laws p bits modulus =
    parameters_by_laws bits (IsBelow p) (bytes_of_number (bytes_for bits)) (below_at p (bytes_for bits))
    (below_modulus_laws p bits modulus.digits)

both_are_long : {A B : Type 0} (first : A → List ℕ) (second : B → List ℕ) (m n : ℕ) (x : A × B)
    → m ≤ length (first x.0) → n ≤ length (second x.1) → m + n ≤ length (both first second x)
both_are_long first second m n x first_long second_long =
    omega (arith, first_long, second_long, length-append (first x.0) (second x.1))

-- five numbers and the counts of two lists, each in eight bytes
pub parameters_are_long : (bits : ℕ) (c : Parameters) → 56 ≤ length (parameters_spelling bits c)
parameters_are_long bits c =
    let rows = counted_list (counted_list (bytes_of_number (bytes_for bits))) in
    let long = counted_list_is_long (counted_list (bytes_of_number (bytes_for bits))) in
    let shape : ℕ × ℕ = (c.rate, c.capacity) in
    let matrix : List (List ℕ) × (ℕ × ℕ) = (c.mds, shape) in
    let constants : List (List ℕ) × (List (List ℕ) × (ℕ × ℕ)) = (c.ark, matrix) in
    let exponent : ℕ × (List (List ℕ) × (List (List ℕ) × (ℕ × ℕ))) = (c.alpha, constants) in
    let partial : ℕ × (ℕ × (List (List ℕ) × (List (List ℕ) × (ℕ × ℕ)))) = (c.partial_rounds, exponent) in
    let shape_long = both_are_long word word 8 8 shape (word_is_long c.rate) (word_is_long c.capacity) in
    let matrix_long = both_are_long rows (both word word) 8 16 matrix (long c.mds) shape_long in
    let constants_long = both_are_long rows (both rows (both word word)) 8 24 constants (long c.ark) matrix_long in
    let exponent_long = both_are_long word (both rows (both rows (both word word))) 8 32 exponent
    (word_is_long c.alpha) constants_long in
    let partial_long = both_are_long word (both word (both rows (both rows (both word word)))) 8 40 partial
    (word_is_long c.partial_rounds) exponent_long in
    both_are_long word (both word (both word (both rows (both rows (both word word))))) 8 48 (fields_of c)
    (word_is_long c.full_rounds) partial_long
