-- circomlib's hash of elements of the scalar field of BN254, by a table.
use Rattle.std.specs.Prelude.{ℕ, ◌==◌, if◌then◌else◌, List, Result, Ok, Err}
use Rattle.ark_base.specs.declared.error.Error.{Error}
use Rattle.ark_base.specs.declared.error.Error.TheVariants.{OutOfMemory, IncorrectInputLength, NotPrimeOrder, GenericError, SerializationError as OfBytes}
use Rattle.ark_base.specs.declared.error.SerializationError.TheVariants.{Truncated as CutShort, InvalidData}
use Rattle.ark_base.specs.Outcome.{Outcome}
use Rattle.ark_sponge.specs.Permutation.{Parameters}
use Rattle.circom.specs.declared.elements.ByteOrder.{ByteOrder}
use Rattle.circom.specs.declared.elements.ByteOrder.TheVariants.{LittleEndian, BigEndian}
use Rattle.circom.specs.Hash.{SpellsTable, hash_outcome}
use Rattle.paxidore_calls.specs.Answer.{refused_of}
use Rattle.paxidore_calls.specs.declared.refused.Refused.{Refused}
use Rattle.paxidore_calls.specs.declared.refused.Refused.TheVariants.{Count, Invalid}

-- The bytes are the table of circomlib's hash of so many inputs.
abbrev pub IsCircomTable : ℕ → List ℕ → Type 0
IsCircomTable inputs bytes = (c : Parameters) × SpellsTable inputs c bytes

-- a refusal of the hash: a length is the count of inputs
abbrev pub refused_inputs : Error → Refused
refused_inputs (IncorrectInputLength n) = Count
refused_inputs OutOfMemory = refused_of OutOfMemory
refused_inputs (OfBytes CutShort) = refused_of (OfBytes CutShort)
refused_inputs (OfBytes InvalidData) = refused_of (OfBytes InvalidData)
refused_inputs (GenericError refusal) = refused_of (GenericError refusal)
refused_inputs NotPrimeOrder = refused_of NotPrimeOrder

-- an outcome of the hash with the refusals for C
abbrev pub hashing_refused : {A : Type 0} → Outcome A → Result A Refused
hashing_refused (Ok value) = Ok value
hashing_refused (Err error) = Err (refused_inputs error)

-- What is said in the byte order that a number names: 1 is the least byte first, 2 the greatest. No other number names
-- one.
abbrev pub in_byte_order : {A : Type 0} → ℕ → (ByteOrder → Result A Refused) → Result A Refused
in_byte_order name outcome =
    if name == 1 then outcome LittleEndian
    else if name == 2 then outcome BigEndian
    else Err Invalid

-- the hash of elements that bytes are, in the byte order that a number names
abbrev pub poseidon_hash : ℕ → Parameters → List ℕ → Result (List ℕ) Refused
poseidon_hash name c inputs = in_byte_order name (λ order. hashing_refused (hash_outcome order c inputs))
