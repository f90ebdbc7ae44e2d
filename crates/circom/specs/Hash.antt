-- circomlib's hash of elements that are bytes, and its tables.
use Rattle.std.specs.Prelude.{◌≡◌, ◌⊎◌, ℕ, ◌+◌, ◌/◌, ◌%◌, ◌^◌, ◌==◌, ◌<◌, ◌≤◌, nat_lt, Bool, if◌then◌else◌, List, [], ◌∷◌, length, All, get_or, Ok, Err}
use Rattle.ark_base.specs.declared.error.Error.{Error}
use Rattle.ark_base.specs.declared.error.Error.TheVariants.{IncorrectInputLength, SerializationError}
use Rattle.ark_base.specs.declared.error.SerializationError.TheVariants.{InvalidData, Truncated}
use Rattle.ark_base.specs.Digits.{number_of_bytes}
use Rattle.ark_base.specs.Outcome.{Outcome, ◌>>=◌}
use Rattle.ark_sponge.specs.Permutation.{Parameters}
use Rattle.ark_sponge.specs.Table.{IsShortOf, IsTable, ShortParts, parts_in, short_permutation}
use Rattle.ark_poseidon.specs.Circom.{circom_outcome}
use Rattle.poseidon_grain.specs.Constants.{AreParameters, Instance, IsMatrixRefused, instance_of}
use Rattle.poseidon_grain.specs.Defaults.{circom_rounds}
use Rattle.circom.specs.declared.elements.ByteOrder.{ByteOrder}
use Rattle.circom.specs.declared.elements.ByteOrder.TheVariants.{LittleEndian}
use Rattle.circom.specs.Elements.{AreNoForms, element_bytes, element_in, elements_of_bytes, form_bytes}
use Rattle.circom.specs.Frame.{IsFrame, IsFrameFault, elements_part, shape_for, table_count, with_sum}

-- the modulus of the scalar field of BN254
abbrev pub modulus : ℕ
modulus = 21888242871839275222246405745257275088548364400416034343698204186575808495617

-- the S-box: a power
abbrev pub power : ℕ → ℕ → ℕ
power alpha x = x ^ alpha % modulus

-- what the generator of the constants is asked for, for the hash of so many inputs
abbrev pub circom_instance : ℕ → Instance
circom_instance inputs = instance_of modulus 254 (inputs + 1) 8 (circom_rounds inputs) 0

-- The parameters of circomlib's hash of so many inputs: those of the Grain LFSR, for a capacity of one element and
-- fifth powers.
abbrev pub AreCircom : ℕ → Parameters → Type 0
AreCircom inputs c = AreParameters (circom_instance inputs) inputs 1 5 c

-- the matrix that the generator gives for the hash of so many inputs is refused
abbrev pub IsCircomRefused : ℕ → Type 0
IsCircomRefused inputs = IsMatrixRefused (circom_instance inputs)

-- the hash of so many elements that bytes in an order are
abbrev pub elements_hashed : ℕ → (ℕ → ℕ → ℕ) → Parameters → ByteOrder → ℕ → List ℕ → Outcome (List ℕ)
elements_hashed p sbox c order count bytes = elements_of_bytes p order count bytes >>= circom_outcome p sbox c

-- the hash of elements that bytes in an order are, in the same order
abbrev pub hash_outcome : ByteOrder → Parameters → List ℕ → Outcome (List ℕ)
hash_outcome order c bytes =
    if length bytes % 32 == 0 then
    (if length bytes / 32 == c.rate then
    (elements_hashed modulus power c order (length bytes / 32) bytes >>= λ digest.
    Ok (element_bytes order (get_or digest 0 0)))
    else Err (IncorrectInputLength (length bytes / 32)))
    else Err (SerializationError Truncated)

-- the hash of two elements, left first, with the least byte of each first
abbrev pub node_outcome : Parameters → List ℕ → List ℕ → Outcome (List ℕ)
node_outcome c left right = do
  x ← element_in modulus LittleEndian left
  y ← element_in modulus LittleEndian right
  digest ← circom_outcome modulus power c (x ∷ y ∷ [])
  Ok (element_bytes LittleEndian (get_or digest 0 0))

-- a table: the count of inputs, and what the permutation runs by
pub record TableValue : Type 0 where
  pub inputs : ℕ
  pub parts : ShortParts

-- whether bytes are an element: a number below the modulus, the least byte first
abbrev pub is_element : List ℕ → Bool
is_element bytes = nat_lt (number_of_bytes bytes) modulus

-- the hash of two elements by what a table runs by, left first, with the least byte of each first
abbrev pub table_outcome : TableValue → List ℕ → List ℕ → Outcome (List ℕ)
table_outcome table left right = do
  x ← element_in modulus LittleEndian left
  y ← element_in modulus LittleEndian right
  if 2 == table.inputs
      then Ok (element_bytes LittleEndian (get_or (short_permutation modulus power table.parts (0 ∷ x ∷ y ∷ [])) 0 0))
      else Err (IncorrectInputLength 2)

-- The table is that of circomlib's hash of so many inputs, at its parameters.
pub record IsTableOf (c : Parameters) (table : TableValue) : Type 0 where
  pub rate : c.rate ≡ table.inputs
  pub capacity : c.capacity ≡ 1
  pub short : IsShortOf modulus c table.parts

-- The bytes are the table of circomlib's hash of so many inputs, at its parameters: the count, the numbers of the
-- table, each times 2^256 modulo the modulus, and the check sum.
pub record SpellsTable (inputs : ℕ) (c : Parameters) (bytes : List ℕ) : Type 0 where
  pub some : 1 ≤ inputs
  pub few : inputs ≤ 16
  pub circom : AreCircom inputs c
  pub numbers : List ℕ
  pub count : length numbers ≡ table_count inputs
  pub below : All (λ x. x < modulus) numbers
  pub table : IsTable modulus c numbers
  pub spelled : bytes ≡ with_sum (inputs ∷ form_bytes modulus numbers)

-- The table is what bytes hold: a count of inputs, as many numbers as its table has, and their check sum.
pub record IsTableIn (bytes : List ℕ) (table : TableValue) : Type 0 where
  pub some : 1 ≤ table.inputs
  pub few : table.inputs ≤ 16
  pub numbers : List ℕ
  pub count : length numbers ≡ table_count table.inputs
  pub below : All (λ x. x < modulus) numbers
  pub spelled : bytes ≡ with_sum (table.inputs ∷ form_bytes modulus numbers)
  pub parts : table.parts ≡ parts_in (shape_for table.inputs) numbers

-- why bytes are no table: they are cut, or damaged, or their check sum is right and they hold no elements
abbrev pub IsTableFault : List ℕ → Error → Type 0
IsTableFault bytes error =
    IsFrameFault bytes error
    ⊎ (IsFrame (get_or bytes 0 0) bytes × AreNoForms modulus (elements_part bytes)
    × (error ≡ SerializationError InvalidData))
