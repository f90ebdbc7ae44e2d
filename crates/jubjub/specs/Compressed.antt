-- Points as 32 bytes: y, with the parity of x as the highest bit. Zcash's protocol specification, 5.4.9.3.
use Rattle.std.specs.Prelude.{◌≡◌, ℕ, ◌+◌, ◌*◌, ◌/◌, ◌%◌, ◌^◌, ◌≤◌, List, Option, None, nat_lt, if◌then◌else◌}
use Rattle.ark_base.specs.Digits.{number_of_bytes, bytes_of_number}
use Rattle.jubjub.specs.declared.compressed.PointFault.{PointFault}
use Rattle.jubjub.specs.declared.compressed.PointFault.TheVariants.{NotBelowModulus, NoPoint, SignOfZero}
use Rattle.jubjub.specs.declared.compressed.PointFault.TheVariants.{OutsideSubgroup}
use Rattle.jubjub.specs.declared.element.Jubjub.{Jubjub}
use Rattle.jubjub.specs.Decoding.{cleared_over}
use Rattle.jubjub.specs.Edwards.{Coordinates}
use Rattle.jubjub.specs.Jubjub.{p, IsOnJubjub, IsInSubgroup}

-- the bytes of y + 2^255 (x mod 2), the least first
unfoldable pub compressed : Coordinates → List ℕ
compressed a = bytes_of_number 32 (a.y + 2 ^ 255 * (a.x % 2))

-- the second coordinate that bytes say
unfoldable pub y_in : List ℕ → ℕ
y_in bytes = number_of_bytes bytes % 2 ^ 255

-- the parity of the first coordinate that bytes say
unfoldable pub parity_in : List ℕ → ℕ
parity_in bytes = number_of_bytes bytes / 2 ^ 255

-- coordinates with this y, whose x has this parity
pub record IsAt (y parity : ℕ) (a : Coordinates) : Type 0 where
  pub second : a.y ≡ y
  pub first : a.x % 2 ≡ parity

-- why there is no element with this y, whose x has this parity
abbrev pub IsFaultAt : ℕ → ℕ → PointFault → Type 0
IsFaultAt y parity NotBelowModulus = p ≤ y
IsFaultAt y parity NoPoint = (x : ℕ) → IsOnJubjub (record { x = x; y = y }) → ⊥
IsFaultAt y parity SignOfZero = IsOnJubjub (record { x = 0; y = y }) × (parity ≡ 1)
IsFaultAt y parity OutsideSubgroup =
    (a : Coordinates) × IsOnJubjub a × IsAt y parity a × (IsInSubgroup a → ⊥)

-- why bytes are no element's
abbrev pub IsFault : List ℕ → PointFault → Type 0
IsFault bytes fault = IsFaultAt (y_in bytes) (parity_in bytes) fault

-- the element that 32 bytes give: 8 times the point that they are the compressed bytes of, if that is an element but
-- zero
abbrev pub found_in : List ℕ → Option Jubjub
found_in bytes = if nat_lt (y_in bytes) p then cleared_over (y_in bytes) (parity_in bytes) else None
