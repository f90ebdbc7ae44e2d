-- Transcripts: the duplex sponge over a field that a number names, by the bytes of its parameters and of its state.
use Rattle.std.specs.Prelude.{◌≡◌, ◌≢◌, ◌⊎◌, ◌≤◌, ℕ, ◌+◌, ◌-◌, ◌/◌, ◌%◌, ◌^◌, ◌==◌, if◌then◌else◌, List, [], ◌∷◌, ◌++◌, length, drop, Bool, true, false, ℤ, pos, Result, Ok, Err, IfOk}
use Rattle.std.specs.List.{flat_map}
use Rattle.ark_base.specs.Digits.{bytes_of_number, bytes_for, below_at, flag, flag_at}
use Rattle.ark_base.specs.Outcome.{Outcome, ◌>>=◌}
use Rattle.ark_base.specs.Reading.{Reading, reading_outcome}
use Rattle.ark_base.specs.Spelling.{word, word_at, items_at, both_at}
use Rattle.ark_absorb.specs.Elements.{piece_numbers, text_bytes}
use Rattle.ark_sponge.specs.ConfigBytes.{fields_of, fields_spelling, parameters_at, parameters_by, parameters_spelling}
use Rattle.ark_poseidon_parameters.specs.Ready.{AreReady, bls12_381_fr_alpha, bls12_381_fr_rounds, bn254_fr_rounds}
use Rattle.ark_sponge.specs.Mode.{mode_index}
use Rattle.ark_sponge.specs.Permutation.{Parameters, width}
use Rattle.ark_sponge.specs.Sponge.{Sponge, SpongeState, new_sponge, restored_sponge, after_absorbing}
use Rattle.ark_sponge.specs.Squeezing.{native_squeezed, bytes_squeezed}
use Rattle.ark_sponge.specs.declared.mode.DuplexSpongeMode.{DuplexSpongeMode}
use Rattle.ark_sponge.specs.declared.mode.DuplexSpongeMode.TheVariants.{Absorbing, Squeezing}
use Rattle.paxidore_calls.specs.Answer.{GivesCode, only_if, refusing, written_code}
use Rattle.paxidore_calls.specs.Forms.{Form, scaled_form, own_form}
use Rattle.paxidore_calls.specs.declared.refused.Refused.{Refused}
use Rattle.paxidore_calls.specs.declared.refused.Refused.TheVariants.{Invalid, Truncated}

-- ---- fields

-- a field: its modulus, how many binary digits that has, and how the elements of parameters stand in their bytes
pub record FieldSize : Type 0 where
  pub modulus : ℕ
  pub bits : ℕ
  pub form : Form

-- a field of this modulus, which has so many binary digits, with parameters in a form
abbrev pub formed : ℕ → ℕ → Form → FieldSize
formed modulus bits form = record { modulus = modulus; bits = bits; form = form }

-- the same with parameters as their canonical bytes
abbrev pub field_size : ℕ → ℕ → FieldSize
field_size modulus bits = formed modulus bits (own_form modulus bits)

-- a field of four words, with prepared parameters
abbrev pub with_prepared : FieldSize → FieldSize
with_prepared f = formed f.modulus f.bits (scaled_form f.modulus f.bits)

-- 2^64 - 2^32 + 1
abbrev pub goldilocks : FieldSize
goldilocks = field_size 18446744069414584321 64

-- 15 * 2^27 + 1
abbrev pub babybear : FieldSize
babybear = field_size 2013265921 31

-- the scalar field of the curve BLS12-381
abbrev pub bls12_381_fr : FieldSize
bls12_381_fr = field_size 52435875175126190479447740508185965837690552500527637822603658699938581184513 255

-- the scalar field of the curve BN254
abbrev pub bn254_fr : FieldSize
bn254_fr = field_size 21888242871839275222246405745257275088548364400416034343698204186575808495617 254

-- What is said over the field that a number names; no other number names one. A number from 257 on names the field of
-- the number that is 256 less, with prepared parameters: for a field of one word these are the canonical bytes.
abbrev pub in_field : {A : Type 0} → ℕ → (FieldSize → Result A Refused) → Result A Refused
in_field name outcome =
    if name == 1 then outcome goldilocks
    else if name == 2 then outcome babybear
    else if name == 3 then outcome bls12_381_fr
    else if name == 4 then outcome bn254_fr
    else if name == 257 then outcome goldilocks
    else if name == 258 then outcome babybear
    else if name == 259 then outcome (with_prepared bls12_381_fr)
    else if name == 260 then outcome (with_prepared bn254_fr)
    else Err Invalid

-- how many bytes an element takes
abbrev pub element_length : FieldSize → ℕ
element_length f = bytes_for f.bits

-- how an element is read: its number, which is below the modulus, the least byte first
abbrev pub field_element_at : FieldSize → List ℕ → Reading ℕ
field_element_at f = below_at f.modulus (element_length f)

-- elements as bytes, one behind the other
abbrev pub elements_bytes : FieldSize → List ℕ → List ℕ
elements_bytes f = flat_map (bytes_of_number (element_length f))

-- the S-box: a power
abbrev pub field_power : FieldSize → ℕ → ℕ → ℕ
field_power f alpha x = x ^ alpha % f.modulus

-- ---- what bytes spell

-- a value, where no bytes are left behind it
abbrev pub none_behind : {V : Type 0} → V × List ℕ → Result V Refused
none_behind (v, []) = Ok v
none_behind (v, byte ∷ bytes) = Err Invalid

-- what bytes spell and nothing behind it, or their first fault
abbrev pub whole_of : {V : Type 0} → Reading V → Result V Refused
whole_of reading = do
  x ← refusing (reading_outcome reading)
  none_behind x

-- the numbers of elements that fill the bytes
abbrev pub elements_filling : FieldSize → List ℕ → Result (List ℕ) Refused
elements_filling f bytes = only_if (length bytes % element_length f == 0) Truncated
    (whole_of (items_at (field_element_at f) (length bytes / element_length f) bytes))

-- what a sponge does next, by its index and whether it squeezes
abbrev pub mode_of : ℕ × Bool → DuplexSpongeMode
mode_of (index, false) = Absorbing index
mode_of (index, true) = Squeezing index

-- the state of so many elements that bytes spell: the elements, the index in eight bytes, a byte 1 where it squeezes
abbrev pub state_in : FieldSize → ℕ → List ℕ → Result SpongeState Refused
state_in f elements bytes = do
  xs ← refusing (reading_outcome (items_at (field_element_at f) elements bytes))
  m ← whole_of (both_at word_at flag_at xs.1)
  Ok (record { state = xs.0; mode = mode_of m })

-- a refusal of a state is that of bytes which spell none
abbrev pub valid : {A : Type 0} → Outcome A → Result A Refused
valid (Ok value) = Ok value
valid (Err error) = Err Invalid

-- the parameters that bytes spell
abbrev pub parameters_in : FieldSize → List ℕ → Result Parameters Refused
parameters_in f bytes = whole_of (parameters_by f.form.reads f.bits bytes)

-- the sponge that the bytes of parameters and of a state spell
abbrev pub sponge_in : FieldSize → List ℕ → List ℕ → Result Sponge Refused
sponge_in f parameters state = do
  c ← parameters_in f parameters
  held ← state_in f (width c) state
  valid (restored_sponge held c)

-- ---- what is written

-- whether a sponge squeezes
abbrev pub is_squeezing : DuplexSpongeMode → Bool
is_squeezing (Absorbing index) = false
is_squeezing (Squeezing index) = true

-- the bytes of a sponge's state
abbrev pub sponge_state_bytes : FieldSize → Sponge → List ℕ
sponge_state_bytes f s = elements_bytes f s.state ++ (word (mode_index s.mode) ++ flag (is_squeezing s.mode))

-- ---- the calls, by the bytes of the state that they leave

-- a transcript that has absorbed nothing
abbrev pub begun : List ℕ → FieldSize → Result (List ℕ) Refused
begun parameters f = do
  c ← parameters_in f parameters
  Ok (sponge_state_bytes f (new_sponge c))

-- the transcript that has absorbed elements
abbrev pub with_elements : (ℕ → ℕ → ℕ) → List ℕ → List ℕ → List ℕ → FieldSize → Result (List ℕ) Refused
with_elements sbox parameters state elements f = do
  s ← sponge_in f parameters state
  xs ← elements_filling f elements
  Ok (sponge_state_bytes f (after_absorbing f.modulus sbox s xs))

-- The transcript that has absorbed bytes: behind their length in eight bytes, in pieces of as many bytes as fit below
-- the modulus.
abbrev pub with_bytes : (ℕ → ℕ → ℕ) → List ℕ → List ℕ → List ℕ → FieldSize → Result (List ℕ) Refused
with_bytes sbox parameters state text f = do
  s ← sponge_in f parameters state
  let xs = piece_numbers f.modulus ((f.bits - 1) / 8) (text_bytes text) in
      Ok (sponge_state_bytes f (after_absorbing f.modulus sbox s xs))

-- What squeezing gives as bytes, and the bytes of the state that it leaves.
pub record Squeezed : Type 0 where
  pub given : List ℕ
  pub state : List ℕ

-- so many bytes of elements: these are whole ones
abbrev pub element_bytes_squeezed : (ℕ → ℕ → ℕ) → List ℕ → List ℕ → ℕ → FieldSize → Result Squeezed Refused
element_bytes_squeezed sbox parameters state count f = only_if (count % element_length f == 0) Truncated (do
  s ← sponge_in f parameters state
  let squeezed = native_squeezed f.modulus sbox s (count / element_length f) in
      Ok (record { given = elements_bytes f squeezed.0; state = sponge_state_bytes f squeezed.1 }))

-- so many bytes
abbrev pub bytes_given : (ℕ → ℕ → ℕ) → List ℕ → List ℕ → ℕ → FieldSize → Result Squeezed Refused
bytes_given sbox parameters state count f = do
  s ← sponge_in f parameters state
  let squeezed = bytes_squeezed f.modulus f.bits sbox s count in
      Ok (record { given = squeezed.0; state = sponge_state_bytes f squeezed.1 })

-- ---- prepared parameters

-- the bytes of parameters: their fields in turn, the elements in the form that the field has
abbrev pub prepared_spelling : FieldSize → Parameters → List ℕ
prepared_spelling f c = fields_spelling f.form.spells (fields_of c)

-- canonical bytes of parameters as prepared ones
abbrev pub prepared_bytes : List ℕ → FieldSize → Result (List ℕ) Refused
prepared_bytes parameters f = do
  c ← whole_of (parameters_at f.modulus f.bits parameters)
  Ok (prepared_spelling f c)

-- Each call over a field with prepared parameters is the call over that field with canonical ones.
pub record ServeAs (name : ℕ) (parameters prepared : List ℕ) : Type 0 where
  pub starts : in_field (name + 256) (begun prepared) ≡ in_field name (begun parameters)
  pub absorbs : (state elements : List ℕ)
      → in_field (name + 256) (λ f. with_elements (field_power f) prepared state elements f)
      ≡ in_field name (λ f. with_elements (field_power f) parameters state elements f)
  pub absorbs_bytes : (state text : List ℕ) → in_field (name + 256)
      (λ f. with_bytes (field_power f) prepared state text f)
      ≡ in_field name (λ f. with_bytes (field_power f) parameters state text f)
  pub squeezes : (state : List ℕ) (count : ℕ)
      → in_field (name + 256) (λ f. element_bytes_squeezed (field_power f) prepared state count f)
      ≡ in_field name (λ f. element_bytes_squeezed (field_power f) parameters state count f)
  pub squeezes_bytes : (state : List ℕ) (count : ℕ)
      → in_field (name + 256) (λ f. bytes_given (field_power f) prepared state count f)
      ≡ in_field name (λ f. bytes_given (field_power f) parameters state count f)

-- ---- ready parameters

-- The parameters are the ready ones of a rate, over the field of this number: fields of four words have some for rates
-- from 2 to 8.
abbrev pub AreReadyOver : ℕ → ℕ → Parameters → Type 0
AreReadyOver name rate c =
    ((name ≡ 3) × AreReady rate (bls12_381_fr_rounds rate) (bls12_381_fr_alpha rate) c)
    ⊎ ((name ≡ 4) × AreReady rate (bn254_fr_rounds rate) 5 c)

-- There are ready parameters over the field of this number, of some rates.
abbrev pub IsReadyField : ℕ → Type 0
IsReadyField name = (name ≡ 3) ⊎ (name ≡ 4)

-- There are ready parameters of a rate over the field of this number.
abbrev pub HasReady : ℕ → ℕ → Type 0
HasReady name rate = IsReadyField name × (2 ≤ rate) × (rate ≤ 8)

-- the bytes are those of ready parameters
abbrev pub SpellReady : ℕ → ℕ → List ℕ → Type 0
SpellReady name rate bytes =
    (c : Parameters) × AreReadyOver name rate c
    × (in_field name (λ f. Ok (parameters_spelling f.bits c)) ≡ Ok bytes)

-- ---- what is done to a caller's buffers

-- the state that squeezing leaves
abbrev pub left_by : Result Squeezed Refused → Result (List ℕ) Refused
left_by (Ok squeezed) = Ok squeezed.state
left_by (Err refused) = Err refused

-- The call writes the bytes of a state over the ones before, or refuses and leaves these.
pub record Replaces (outcome : Result (List ℕ) Refused) (before after : List ℕ) (code : ℤ) : Type 0 where
  pub right_code : GivesCode (written_code outcome (length before)) code
  pub written : code ≡ pos 0 → IfOk outcome (λ bytes. after ≡ bytes ++ drop (length bytes) before)
  pub kept : code ≢ pos 0 → after ≡ before
