-- Elements as bytes: 32 for each.
use Rattle.std.specs.Prelude.{◌≡◌, ℕ, zero, suc, ◌*◌, ◌%◌, ◌^◌, ◌<◌, nat_lt, if◌then◌else◌, List, [], ◌∷◌, take, drop, reverse, All, Ok, Err}
use Rattle.std.specs.List.{flat_map}
use Rattle.ark_base.specs.declared.error.Error.TheVariants.{SerializationError}
use Rattle.ark_base.specs.declared.error.SerializationError.TheVariants.{InvalidData}
use Rattle.ark_base.specs.Digits.{bytes_of_number, number_of_bytes}
use Rattle.ark_base.specs.Outcome.{Outcome, ◌>>=◌}
use Rattle.circom.specs.declared.elements.ByteOrder.{ByteOrder}
use Rattle.circom.specs.declared.elements.ByteOrder.TheVariants.{LittleEndian, BigEndian}

-- bytes in an order, as those of the same number with the least byte first, and the other way round
abbrev pub ordered : ByteOrder → List ℕ → List ℕ
ordered LittleEndian bytes = bytes
ordered BigEndian bytes = reverse bytes

-- the number that bytes in an order are, where it is below a modulus
abbrev pub element_in : ℕ → ByteOrder → List ℕ → Outcome ℕ
element_in p order bytes =
    let number = number_of_bytes (ordered order bytes) in
    if nat_lt number p then Ok number else Err (SerializationError InvalidData)

-- the numbers of so many elements, one behind the other
unfoldable pub elements_of_bytes : ℕ → ByteOrder → ℕ → List ℕ → Outcome (List ℕ)
elements_of_bytes p order zero bytes = Ok []
elements_of_bytes p order (suc count) bytes = do
  first ← element_in p order (take 32 bytes)
  others ← elements_of_bytes p order count (drop 32 bytes)
  Ok (first ∷ others)

-- a number as 32 bytes in an order
abbrev pub element_bytes : ByteOrder → ℕ → List ℕ
element_bytes order number = ordered order (bytes_of_number 32 number)

-- numbers times 2^256 modulo p, 32 bytes each: so elements need no product to be read
abbrev pub form_bytes : ℕ → List ℕ → List ℕ
form_bytes p = flat_map (λ x. bytes_of_number 32 (x * 2 ^ 256 % p))

-- bytes that are the forms of no numbers below p
abbrev pub AreNoForms : ℕ → List ℕ → Type 0
AreNoForms p bytes = (xs : List ℕ) → All (λ x. x < p) xs → bytes ≡ form_bytes p xs → ⊥
