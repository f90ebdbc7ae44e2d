-- What stands around the elements of a table: the count of inputs before them, and a check sum behind them.
use Rattle.std.specs.Prelude.{◌≡◌, ◌≢◌, ◌⊎◌, ℕ, ◌+◌, ◌*◌, ◌/◌, ◌%◌, ◌^◌, ◌<◌, ◌≤◌, List, [], ◌∷◌, ◌++◌, length, map, take, drop, get_or}
use Rattle.std.specs.Int.{w64, from_le_bytes, to_le_bytes}
use Rattle.std.specs.Simd.{first_chunks}
use Rattle.ark_base.specs.declared.error.Error.{Error}
use Rattle.ark_base.specs.declared.error.Error.TheVariants.{SerializationError}
use Rattle.ark_base.specs.declared.error.SerializationError.TheVariants.{InvalidData, Truncated}
use Rattle.ark_sponge.specs.declared.poseidon.table.shape.TableShape.{TableShape}
use Rattle.ark_sponge.specs.Table.{table_length}
use Rattle.poseidon_grain.specs.Defaults.{circom_rounds}

-- the counts of the table of so many inputs: fifth powers, and four full rounds before the partial ones and behind them
abbrev pub shape_for : ℕ → TableShape
shape_for inputs = record { alpha = 5; width = inputs + 1; before = 4; behind = 4 }

-- how many elements the table of so many inputs has: behind the others a constant for each partial round
abbrev pub table_count : ℕ → ℕ
table_count inputs = table_length (shape_for inputs) + circom_rounds inputs

-- how many bytes it has before its check sum: one for the count of inputs, and 32 for each element
abbrev pub table_end : ℕ → ℕ
table_end inputs = 1 + 32 * table_count inputs

-- the number to base 1099511628211 that has a digit behind those of another number, modulo 2^64
abbrev pub with_digit : ℕ → ℕ → ℕ
with_digit number digit = (number * 1099511628211 + digit) % 2 ^ 64

-- and the number that has more digits so
abbrev pub with_digits : ℕ → List ℕ → ℕ
with_digits number [] = number
with_digits number (digit ∷ digits) = with_digits (with_digit number digit) digits

-- the words of eight bytes that bytes are, each with its least byte first
abbrev pub words_in : List ℕ → List ℕ
words_in bytes = map (from_le_bytes w64) (first_chunks 8 (length bytes / 8) bytes)

-- the bytes behind them, fewer than eight
abbrev pub behind_words : List ℕ → List ℕ
behind_words bytes = drop (length bytes / 8 * 8) bytes

-- The check sum of bytes: the number whose digits are their words and the bytes behind them, in eight bytes, the least
-- first. One digit that is another changes it, whatever the others are.
abbrev pub check_sum : List ℕ → List ℕ
check_sum bytes = to_le_bytes w64 (with_digits (with_digits 0 (words_in bytes)) (behind_words bytes))

-- bytes, and their check sum behind them
abbrev pub with_sum : List ℕ → List ℕ
with_sum bytes = bytes ++ check_sum bytes

-- the bytes of the elements, by the count of inputs that stands before them
abbrev pub elements_part : List ℕ → List ℕ
elements_part bytes = take (32 * table_count (get_or bytes 0 0)) (drop 1 bytes)

-- Bytes begin with a count of inputs from 1 to 16, are as many as its table has, and end with their check sum.
pub record IsFrame (inputs : ℕ) (bytes : List ℕ) : Type 0 where
  pub some : 1 ≤ inputs
  pub few : inputs ≤ 16
  pub first : get_or bytes 0 0 ≡ inputs
  pub long : length bytes ≡ table_end inputs + 8
  pub sum : drop (table_end inputs) bytes ≡ check_sum (take (table_end inputs) bytes)

-- ---- why bytes are none

-- bytes begin with this count of inputs, from 1 to 16
abbrev pub BeginsWith : ℕ → List ℕ → Type 0
BeginsWith inputs bytes = (0 < length bytes) × (get_or bytes 0 0 ≡ inputs) × (1 ≤ inputs) × (inputs ≤ 16)

-- There are no bytes, or fewer than the table of their count of inputs has. A table without its check sum, as they once
-- were, is cut so.
abbrev pub IsCutTable : List ℕ → Type 0
IsCutTable bytes =
    (length bytes ≡ 0) ⊎ ((inputs : ℕ) × BeginsWith inputs bytes × (length bytes < table_end inputs + 8))

-- bytes begin with another number than 1 to 16, are more than the table of so many inputs has, or end with another
-- check sum
abbrev pub IsDamagedTable : List ℕ → Type 0
IsDamagedTable bytes =
    ((0 < length bytes) × ((get_or bytes 0 0 < 1) ⊎ (16 < get_or bytes 0 0)))
    ⊎ ((inputs : ℕ) × BeginsWith inputs bytes × (table_end inputs + 8 < length bytes))
    ⊎ ((inputs : ℕ) × BeginsWith inputs bytes × (length bytes ≡ table_end inputs + 8)
    × (drop (table_end inputs) bytes ≢ check_sum (take (table_end inputs) bytes)))

-- why bytes are no table before an element is read: they are cut, or damaged
abbrev pub IsFrameFault : List ℕ → Error → Type 0
IsFrameFault bytes error =
    (IsCutTable bytes × (error ≡ SerializationError Truncated))
    ⊎ (IsDamagedTable bytes × (error ≡ SerializationError InvalidData))
