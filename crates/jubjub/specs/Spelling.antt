-- The canonical bytes of coordinates, and of elements of the prime subgroup.
use Rattle.std.specs.Prelude.{ℕ, ◌+◌, ◌*◌, ◌%◌, List, ◌∷◌, [], ◌++◌, take, drop, Bool, not, ◌&&◌, eqb, ltb, Result, Ok}
use Rattle.std.specs.Prelude.{Err}
use Rattle.std.specs.Prelude.{if◌then◌else◌}
use Rattle.ark_base.specs.declared.error.SerializationError.{SerializationError}
use Rattle.ark_base.specs.declared.error.SerializationError.TheVariants.{InvalidData}
use Rattle.ark_base.specs.Digits.{number_of_bytes, bytes_of_number}
use Rattle.ark_base.specs.Reading.{Reading}
use Rattle.ark_base.specs.Spelling.{fixed_at}
use Rattle.ark_groups.specs.Group.{times}
use Rattle.jubjub.specs.Edwards.{Coordinates, neutral}
use Rattle.jubjub.specs.Jubjub.{p, d, order, curve}

-- 32 bytes of x, and then 32 of y, the least byte first
abbrev pub spelling : Coordinates → List ℕ
spelling a = bytes_of_number 32 a.x ++ bytes_of_number 32 a.y

-- the numbers that 64 bytes spell
abbrev pub coordinates_in : List ℕ → Coordinates
coordinates_in bytes = record { x = number_of_bytes (take 32 bytes); y = number_of_bytes (drop 32 bytes) }

-- the coordinates as numbers
abbrev pub numbers_in : Coordinates → List ℕ
numbers_in a = a.x ∷ a.y ∷ []

-- whether coordinates are in the prime subgroup, as a test
unfoldable pub is_in_subgroup : Coordinates → Bool
is_in_subgroup a =
    let multiple = times curve order a in
    ltb a.x p
    && (ltb a.y p
    && (eqb ((a.x * a.x + 1 + d * a.x * a.x * a.y * a.y) % p) (a.y * a.y % p)
    && (eqb multiple.x neutral.x && eqb multiple.y neutral.y)))

-- the coordinates that 64 bytes spell, if they are in the prime subgroup
unfoldable pub element_of : List ℕ → Result Coordinates SerializationError
element_of bytes = if not (is_in_subgroup (coordinates_in bytes)) then Err InvalidData else Ok (coordinates_in bytes)

-- how an element is read: 64 bytes, cut short where fewer remain
abbrev pub jubjub_element_at : List ℕ → Reading Coordinates
jubjub_element_at = fixed_at 64 element_of
