-- The laws of the canonical bytes of what the permutation is set up with.
use Rattle.std.proofs.Common.{◌≡◌, ℕ, ◌<◌, Bool, true, false, cond, List, ◌++◌, length, take, Ok, Err, refl, ap, subst, ◌∙◌}
use Rattle.ark_base.specs.declared.error.Error.{Error}
use Rattle.ark_base.specs.declared.error.Error.TheVariants.{GenericError}
use Rattle.ark_base.specs.declared.error.Refusal.TheVariants.{ParameterShape}
use Rattle.ark_base.specs.declared.error.SerializationError.{SerializationError}
use Rattle.ark_base.specs.declared.error.SerializationError.TheVariants.{Truncated}
use Rattle.ark_base.specs.Outcome.{Outcome}
use Rattle.ark_base.specs.Reading.{Reading, IsBytes, IsCanonical}
use Rattle.ark_base.specs.Spelling.{IsWord, word, word_at, IsCounted, counted_list, counted_list_at, made_at}
use Rattle.ark_base.specs.Digits.{bytes_of_number, IsBelow, below_at, bytes_for}
use Rattle.ark_base.specs.Laws.Steps.{bind_ok, done_injective}
use Rattle.ark_base.specs.Laws.Parts.{both_laws, made_laws}
use Rattle.ark_base.specs.Laws.Lists.{counted_list_laws}
use Rattle.ark_base.specs.Laws.Numbers.{word_laws}
use Rattle.ark_groups.specs.Field.{IsFieldModulus}
use Rattle.ark_groups.specs.Laws.Fp.{below_modulus_laws}
use Rattle.ark_sponge.specs.ConfigBytes.{let_through, tested_at}
use Rattle.poseidon2.specs.Permutation.{Poseidon2Parameters, has_poseidon2_shape, lawful_poseidon2}
use Rattle.poseidon2.specs.ConfigBytes.{poseidon2_fields_of, of_poseidon2_fields, HavePoseidon2Spelling, poseidon2_fields_spelling, poseidon2_fields_at, IsPoseidon2Spelled, poseidon2_spelling, poseidon2_at}

-- ---- the fields in turn

fields_laws : {V : Type 0} (fits : V → Type 0) (spell : V → List ℕ) (reads : List ℕ → Reading V)
    → IsCanonical fits spell reads
    → IsCanonical (HavePoseidon2Spelling fits) (poseidon2_fields_spelling spell) (poseidon2_fields_at reads)
fields_laws fits spell reads laws =
    let row = counted_list_laws fits spell reads laws in
    let rows = counted_list_laws (IsCounted fits) (counted_list spell) (counted_list_at reads) row in
    both_laws IsWord word word_at _ _ _ word_laws (both_laws _ _ _ _ _ _ rows (both_laws _ _ _ _ _ _ row
    (both_laws _ _ _ _ _ _ rows row)))

-- ---- a test at the end

let_through-Ok : {V : Type 0} (outcome : Outcome V) (rest : List ℕ) (x : V × List ℕ) → let_through outcome rest ≡ Ok x
    → (outcome ≡ Ok x.0) × (rest ≡ x.1)
let_through-Ok {V} (Ok v) rest x e =
    let same : (v, rest) ≡ x = done_injective {A = V × List ℕ} {E = SerializationError} (v, rest) x e in
    (ap (λ (y : V × List ℕ). Ok y.0) same, ap (λ (y : V × List ℕ). y.1) same)
let_through-Ok (Err refusal) rest x e = absurd cc

module _ {V : Type 0} (test : V → Outcome V) (same : (v w : V) → test v ≡ Ok w → v ≡ w) (fits : V → Type 0)
    (spell : V → List ℕ) (reads : List ℕ → Reading V) (laws : IsCanonical fits spell reads) where
  tested_again : (v : V) (rest : List ℕ) → fits v × (test v ≡ Ok v)
      → tested_at test reads (spell v ++ rest) ≡ Ok (v, rest)
  unfolding tested_at
  tested_again v rest h = rw (laws.again v rest h.0, h.1) refl

  tested_spelled : (bytes : List ℕ) (w : V) (rest : List ℕ) → IsBytes bytes → tested_at test reads bytes ≡ Ok (w, rest)
      → (fits w × (test w ≡ Ok w)) × (bytes ≡ spell w ++ rest)
  unfolding tested_at
  tested_spelled bytes w rest fitting e =
      let step = bind_ok (reads bytes) (λ v. let_through (test v.0) v.1) (w, rest) e in
      let v = step.0.0 in
      let one = laws.spelled bytes v step.0.1 fitting step.1 in
      let through = let_through-Ok (test v) step.0.1 (w, rest) step.2 in
      let is_w : v ≡ w = same v w through.0 in
      let parts : (fits v × (test v ≡ Ok w)) × (bytes ≡ spell v ++ step.0.1) = ((one.0, through.0), one.1) in
      let behind : (fits v × (test v ≡ Ok w)) × (bytes ≡ spell v ++ rest) =
      (parts.0, parts.1 ∙ ap (λ t. spell v ++ t) through.1) in
      subst (λ u. (fits u × (test u ≡ Ok w)) × (bytes ≡ spell u ++ rest)) is_w behind

  tested_cut : (v : V) (n : ℕ) → fits v × (test v ≡ Ok v) → n < length (spell v)
      → tested_at test reads (take n (spell v)) ≡ Err Truncated
  unfolding tested_at
  tested_cut v n h below = rw (laws.cut v n h.0 below) refl

  tested_laws : IsCanonical (λ v. fits v × (test v ≡ Ok v)) spell (tested_at test reads)
  tested_laws = record { again = tested_again; spelled = tested_spelled; cut = tested_cut }

-- ---- parameters

kept-Ok : {A : Type 0} (b : Bool) (refusal : Error) (v w : A) → cond b (Ok v) (Err refusal) ≡ Ok w → v ≡ w
kept-Ok true refusal v w e = cc
kept-Ok false refusal v w e = absurd cc

lawful-same : (c d : Poseidon2Parameters) → lawful_poseidon2 c ≡ Ok d → c ≡ d
lawful-same c d e = kept-Ok (has_poseidon2_shape c) (GenericError ParameterShape) c d e

pub poseidon2_laws : (p bits : ℕ) → IsFieldModulus p bits
    → IsCanonical (IsPoseidon2Spelled p) (poseidon2_spelling bits) (poseidon2_at p bits)
poseidon2_laws p bits modulus =
    let fits = IsBelow p in
    let spell = bytes_of_number (bytes_for bits) in
    let reads = below_at p (bytes_for bits) in
    tested_laws lawful_poseidon2 lawful-same (λ c. HavePoseidon2Spelling fits (poseidon2_fields_of c))
    (λ c. poseidon2_fields_spelling spell (poseidon2_fields_of c))
    (made_at of_poseidon2_fields (poseidon2_fields_at reads))
    (made_laws of_poseidon2_fields poseidon2_fields_of (λ c. refl) (λ f. refl) (HavePoseidon2Spelling fits)
    (poseidon2_fields_spelling spell) (poseidon2_fields_at reads)
    (fields_laws fits spell reads (below_modulus_laws p bits modulus.digits)))
