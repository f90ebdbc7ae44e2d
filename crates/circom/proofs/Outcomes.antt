-- The hash by a table and that at its parameters.
use Rattle.std.proofs.Common.{◌≡◌, ◌⊎◌, inl, inr, ℕ, ◌+◌, ◌/◌, ◌^◌, ◌<◌, ◌==◌, List, [], ◌∷◌, take, drop, get_or, slice_range, Bool, true, false, if◌then◌else◌, All, Ok, Err, refl, sym, ap, ◌∙◌, arith, eq-eqb}
use Rattle.std.proofs.lemmas.Bool.{cases_lt, eqb-true, lt-ltb, le-ltb}
use Rattle.std.proofs.lemmas.List.Elements.{All-cons}
use Rattle.ark_base.specs.declared.error.Error.{Error}
use Rattle.ark_base.specs.declared.error.Error.TheVariants.{IncorrectInputLength, SerializationError}
use Rattle.ark_base.specs.declared.error.SerializationError.TheVariants.{InvalidData}
use Rattle.ark_base.specs.Digits.{number_of_bytes}
use Rattle.ark_base.specs.Laws.Digits.{number_of_bytes-bytes_of_number}
use Rattle.ark_base.specs.Outcome.{◌>>=◌}
use Rattle.ark_poseidon.specs.Circom.{circom_outcome, first_permuted}
use Rattle.ark_sponge.specs.Permutation.{Parameters, permutation, poseidon_rounds, width}
use Rattle.ark_sponge.specs.Table.{short_permutation}
use Rattle.ark_sponge.proofs.Permuting.{poseidon_rounds-below}
use Rattle.circom.specs.declared.elements.ByteOrder.TheVariants.{LittleEndian}
use Rattle.circom.specs.Elements.{element_bytes, element_in}
use Rattle.circom.specs.Hash.{IsTableOf, TableValue, is_element, modulus, node_outcome, power, table_outcome}
use Rattle.circom.proofs.Closed.{IsClosed}

-- ---- elements in bytes

-- the element that bytes are
pub record Element (bytes : List ℕ) : Type 0 where
  pub number : ℕ
  pub below : number < modulus
  pub is : element_in modulus LittleEndian bytes ≡ Ok number

pub element_cases : (bytes : List ℕ) → Element bytes
    ⊎ (element_in modulus LittleEndian bytes ≡ Err (SerializationError InvalidData))
element_cases bytes = elim (cases_lt (number_of_bytes bytes) modulus) [
  | inl below ↦ inl (record {
    number = number_of_bytes bytes;
    below = below;
    is = rw (lt-ltb (number_of_bytes bytes) modulus below) refl;
  })
  | inr past ↦ inr (rw (le-ltb (number_of_bytes bytes) modulus past) refl)
]

no_element : false ≡ true → ⊥
no_element is = cc

pub element_of : (bytes : List ℕ) → is_element bytes ≡ true → Element bytes
element_of bytes is = elim (cases_lt (number_of_bytes bytes) modulus) [
  | inl below ↦ record {
    number = number_of_bytes bytes;
    below = below;
    is = rw (lt-ltb (number_of_bytes bytes) modulus below) refl;
  }
  | inr past ↦ absurd (no_element (sym (le-ltb (number_of_bytes bytes) modulus past) ∙ is))
]

fits_bytes : modulus < 256 ^ 32
fits_bytes = omega arith

-- the bytes of a number below the modulus are an element
pub bytes_are : (n : ℕ) → n < modulus → is_element (element_bytes LittleEndian n) ≡ true
bytes_are n below =
    let fits : n < 256 ^ 32 = omega (arith, fits_bytes) in
    rw (number_of_bytes-bytes_of_number 32 n fits) (lt-ltb n modulus below)

no_digest : (error : Error) (digest : List ℕ) → Err error ≡ Ok digest → ⊥
no_digest error digest is = cc

element_test : (bytes : List ℕ) → (is_element bytes ≡ true)
    ⊎ (element_in modulus LittleEndian bytes ≡ Err (SerializationError InvalidData))
element_test bytes = elim (cases_lt (number_of_bytes bytes) modulus) [
  | inl below ↦ inl (lt-ltb (number_of_bytes bytes) modulus below)
  | inr past ↦ inr (rw (le-ltb (number_of_bytes bytes) modulus past) refl)
]

-- What has a hash are elements.
pub hashed_are : (c : Parameters) (left right digest : List ℕ) → node_outcome c left right ≡ Ok digest
    → (is_element left ≡ true) × (is_element right ≡ true)
hashed_are c left right digest is = elim (element_test left) [
  | inr refused ↦ absurd (no_digest (SerializationError InvalidData) digest (rw (refused) at is))
  | inl first ↦ elim (element_test right) [
    | inl second ↦ (first, second)
    | inr refused ↦
        absurd (no_digest (SerializationError InvalidData) digest (rw ((element_of left first).is, refused) at is))
  ]
]

-- ---- the hash of two

head_taken : (xs : List ℕ) → get_or (take 1 xs) 0 0 ≡ get_or xs 0 0
head_taken [] = refl
head_taken (x ∷ xs) = refl

two_below : (x y : ℕ) → x < modulus → y < modulus → All (λ n. n < modulus) (0 ∷ x ∷ y ∷ [])
two_below x y x_below y_below =
    All-cons (λ n. n < modulus) 0 (x ∷ y ∷ []) (omega arith)
    (All-cons (λ n. n < modulus) x (y ∷ []) x_below (All-cons (λ n. n < modulus) y [] y_below none))
  where
    none : All (λ (n : ℕ). n < modulus) []
    none k d q = absurd (omega (arith, q))

chosen : (first second : Bool) (bytes digest : List ℕ) → first ≡ second
    → (first ≡ true → bytes ≡ element_bytes LittleEndian (get_or digest 0 0))
    → (if first then Ok bytes else Err (IncorrectInputLength 2))
    ≡ ((if second then Ok digest else Err (IncorrectInputLength 2)) >>= λ digest.
    Ok (element_bytes LittleEndian (get_or digest 0 0)))
chosen true true bytes digest alike same = ap Ok (same refl)
chosen false false bytes digest alike same = refl
chosen true false bytes digest alike same = absurd cc
chosen false true bytes digest alike same = absurd cc

permutation-below : (p : ℕ) (image : ℕ → ℕ → ℕ) (c : Parameters) (xs : List ℕ) → 0 < p → All (λ n. n < p) xs
    → All (λ n. n < p) (permutation p image c xs)
unfolding permutation
permutation-below p image c xs some below =
    let half = c.full_rounds / 2 in
    let middle = half + c.partial_rounds in
    let sbox = image c.alpha in
    let first = poseidon_rounds p sbox c.mds (width c) (take half c.ark) xs in
    let partial = poseidon_rounds p sbox c.mds 1 (slice_range c.ark half middle) first in
    poseidon_rounds-below p (width c) sbox c.mds (drop middle c.ark) partial some
    (poseidon_rounds-below p 1 sbox c.mds (slice_range c.ark half middle) first some
    (poseidon_rounds-below p (width c) sbox c.mds (take half c.ark) xs some below))

head_below : (xs : List ℕ) → All (λ n. n < modulus) xs → get_or (take 1 xs) 0 0 < modulus
head_below [] below = omega arith
head_below (x ∷ xs) below = below 0 0 (omega arith)

module _ {c : Parameters} {table : TableValue} (of : IsTableOf c table) where
  permuted : (x y : ℕ) → x < modulus → y < modulus → 2 ≡ table.inputs
      → short_permutation modulus power table.parts (0 ∷ x ∷ y ∷ []) ≡ permutation modulus power c (0 ∷ x ∷ y ∷ [])
  permuted x y x_below y_below two = of.short.same power (0 ∷ x ∷ y ∷ [])
      (omega (arith, two, of.rate, of.capacity)) (two_below x y x_below y_below)

  numbers-same : (x y : ℕ) → x < modulus → y < modulus
      → (if 2 == table.inputs
      then Ok (element_bytes LittleEndian (get_or (short_permutation modulus power table.parts (0 ∷ x ∷ y ∷ [])) 0 0))
      else Err (IncorrectInputLength 2))
      ≡ (circom_outcome modulus power c (x ∷ y ∷ []) >>= λ digest. Ok (element_bytes LittleEndian (get_or digest 0 0)))
  numbers-same x y x_below y_below = rw (eq-eqb c.capacity 1 of.capacity)
      (chosen (2 == table.inputs) (2 == c.rate) _ (first_permuted modulus power c (x ∷ y ∷ []))
      (ap (λ n. 2 == n) (sym of.rate)) (λ yes. ap (element_bytes LittleEndian)
      (ap (λ l. get_or l 0 0) (permuted x y x_below y_below (eqb-true 2
      table.inputs yes)) ∙ sym (head_taken (permutation modulus power c (0 ∷ x ∷ y ∷ []))))))

  right-same : (left right : List ℕ) → Element left → table_outcome table left right ≡ node_outcome c left right
  right-same left right x = elim (element_cases right) [
    | inl y ↦ rw (x.is, y.is) (numbers-same x.number y.number x.below y.below)
    | inr refused ↦ rw (x.is, refused) refl
  ]

  outcomes-same : (left right : List ℕ) → table_outcome table left right ≡ node_outcome c left right
  outcomes-same left right = elim (element_cases left) [
    | inl x ↦ right-same left right x
    | inr refused ↦ rw (refused) refl
  ]

  -- the hash of two by the table is that at its parameters
  pub table-node : table_outcome table ≡ node_outcome c
  table-node = λ i left right. outcomes-same left right i

  -- the hash of two elements is one
  pub node-closed : table.inputs ≡ 2 → IsClosed (node_outcome c) is_element
  node-closed two = record {
    hashed = λ left right is_left is_right.
        let x = element_of left is_left in
        let y = element_of right is_right in
        let d = get_or (first_permuted modulus power c (x.number ∷ y.number ∷ [])) 0 0 in
        let rate : 2 ≡ c.rate = omega (arith, two, of.rate) in
        let below : All (λ n. n < modulus) (permutation modulus power c (0 ∷ x.number ∷ y.number ∷ [])) =
        permutation-below modulus power c (0 ∷ x.number ∷ y.number ∷ []) (omega arith)
        (two_below x.number y.number x.below y.below) in (
          element_bytes LittleEndian d,
          rw (x.is, y.is, eq-eqb c.capacity 1 of.capacity, eq-eqb 2 c.rate rate) refl,
          bytes_are d (head_below (permutation modulus power c (0 ∷ x.number ∷ y.number ∷ [])) below),
        );
  }
