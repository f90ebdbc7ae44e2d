-- Logs of elements: what their pairs and leaves are hashed to.
use Rattle.std.specs.Prelude.{if◌then◌else◌, Ok, Err}
use Rattle.ark_base.specs.declared.error.Error.{Error}
use Rattle.ark_base.specs.declared.error.Error.TheVariants.{OutOfMemory, SerializationError}
use Rattle.ark_base.specs.declared.error.SerializationError.TheVariants.{InvalidData}
use Rattle.ark_base.specs.Outcome.{Outcome}
use Rattle.ark_paths.specs.Pair.{Digest, Hashes}
use Rattle.circom.specs.Hash.{is_element}
use Rattle.circom.specs.declared.refusal.NoElement.{NoElement}
use Rattle.circom.specs.declared.refusal.NodeRefusal.{NodeRefusal}
use Rattle.circom.specs.declared.refusal.NodeRefusal.TheVariants.{Element, Memory}
use Rattle.merkle_log.specs.Log.{NodeHash, both_levels}

-- the error that a refusal stands for
abbrev pub refusal_error : NodeRefusal → Error
refusal_error Element = SerializationError InvalidData
refusal_error Memory = OutOfMemory

-- The same of a digest that is no element. It never is a lack of memory.
abbrev pub no_element_error : NoElement → Error
no_element_error refusal = SerializationError InvalidData

-- an element is its own leaf digest; other bytes have none
abbrev pub element_outcome : Digest → Outcome Digest
element_outcome bytes = if is_element bytes then Ok bytes else Err (SerializationError InvalidData)

-- the hashes of a log of elements, by the hash of its pairs
abbrev pub element_hashes : NodeHash → Hashes Digest
element_hashes hash = record { leaf = element_outcome; pair = both_levels hash }
