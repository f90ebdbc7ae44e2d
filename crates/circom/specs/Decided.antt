-- No refusal of a table's hash is a lack of memory.
use Rattle.std.specs.Prelude.{ℕ, ◌==◌, Bool, true, false, if◌then◌else◌, List, Ok, Err}
use Rattle.ark_base.specs.declared.error.Error.{Error}
use Rattle.ark_base.specs.declared.error.Error.TheVariants.{IncorrectInputLength, SerializationError}
use Rattle.ark_base.specs.declared.error.SerializationError.TheVariants.{InvalidData}
use Rattle.ark_base.specs.Outcome.{Outcome, ◌>>=◌, IsDecided}
use Rattle.circom.specs.declared.elements.ByteOrder.TheVariants.{LittleEndian}
use Rattle.circom.specs.Elements.{element_in}
use Rattle.circom.specs.Hash.{TableValue, is_element, modulus, table_outcome}
use Rattle.circom.specs.Nodes.{element_outcome}

-- A test's value is given, or a refusal that is no lack of memory.
value-decided : {A : Type 0} (test : Bool) (value : A) (error : Error) → IsDecided {A = A} (Err error)
    → IsDecided {A = A} (if test then Ok value else Err error)
value-decided true value error decided = tt
value-decided false value error decided = decided

-- A step, and one behind it, lack no memory where neither does.
then-decided : {A B : Type 0} (first : Outcome A) (next : A → Outcome B) → IsDecided first
    → ((value : A) → IsDecided (next value)) → IsDecided (first >>= next)
then-decided (Ok value) next decided all = all value
then-decided (Err error) next decided all = decided

-- Bytes that are no element are refused for that, and not for a lack of memory.
pub element-decided : (bytes : List ℕ) → IsDecided (element_outcome bytes)
element-decided bytes = value-decided (is_element bytes) bytes (SerializationError InvalidData) (λ is. cc)

-- The same of the number that they are.
number-decided : (bytes : List ℕ) → IsDecided (element_in modulus LittleEndian bytes)
number-decided bytes = value-decided _ _ (SerializationError InvalidData) (λ is. cc)

-- The hash of two by a table is refused for what is hashed or for the table, and not for a lack of memory.
pub table-decided : (table : TableValue) (left right : List ℕ) → IsDecided (table_outcome table left right)
table-decided table left right =
    then-decided (element_in modulus LittleEndian left) _ (number-decided left)
    (λ x. then-decided (element_in modulus LittleEndian right) _ (number-decided right)
    (λ y. value-decided (2 == table.inputs) _ (IncorrectInputLength 2) (λ is. cc)))
