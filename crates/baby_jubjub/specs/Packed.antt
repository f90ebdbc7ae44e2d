-- Points as 32 bytes, as circomlib's packPoint writes them.
use Rattle.std.specs.Prelude.{◌≡◌, ℕ, ◌+◌, ◌*◌, ◌/◌, ◌%◌, ◌^◌, ◌≤◌, nat_lt, List}
use Rattle.std.specs.Int.{from_bool}
use Rattle.ark_base.specs.Digits.{number_of_bytes, bytes_of_number}
use Rattle.edwards.specs.Edwards.{Coordinates}
use Rattle.baby_jubjub.specs.declared.point.PointFault.{PointFault}
use Rattle.baby_jubjub.specs.declared.point.PointFault.TheVariants.{NotBelowModulus, NotOnCurve, SignOfZero}
use Rattle.baby_jubjub.specs.declared.point.PointFault.TheVariants.{OutsideSubgroup}
use Rattle.baby_jubjub.specs.BabyJubjub.{p, IsOnBabyJubjub}

-- (p - 1) / 2
abbrev pub half_p : ℕ
half_p = 10944121435919637611123202872628637544274182200208017171849102093287904247808

-- the sign of a first coordinate: 1 where it is above (p - 1) / 2, else 0
unfoldable pub sign : ℕ → ℕ
sign x = from_bool (nat_lt half_p x)

-- the bytes of y, the least first, with the sign of x as the highest bit
unfoldable pub packed_bytes : Coordinates → List ℕ
packed_bytes q = bytes_of_number 32 (q.y + 2 ^ 255 * sign q.x)

-- the second coordinate that bytes say
unfoldable pub second_in : List ℕ → ℕ
second_in bytes = number_of_bytes bytes % 2 ^ 255

-- the sign of the first coordinate that bytes say
unfoldable pub sign_in : List ℕ → ℕ
sign_in bytes = number_of_bytes bytes / 2 ^ 255

-- coordinates with this y, whose x has this sign
pub record IsPointAt (y s : ℕ) (q : Coordinates) : Type 0 where
  pub second : q.y ≡ y
  pub first : sign q.x ≡ s

-- why there is no point with this y, whose x has this sign
abbrev pub IsPointFaultAt : ℕ → ℕ → PointFault → Type 0
IsPointFaultAt y s NotBelowModulus = p ≤ y
IsPointFaultAt y s NotOnCurve = (x : ℕ) → IsOnBabyJubjub (record { x = x; y = y }) → ⊥
IsPointFaultAt y s SignOfZero = IsOnBabyJubjub (record { x = 0; y = y }) × (s ≡ 1)
IsPointFaultAt y s OutsideSubgroup = ⊥

-- why bytes are no point's
abbrev pub IsPackedFault : List ℕ → PointFault → Type 0
IsPackedFault bytes fault = IsPointFaultAt (second_in bytes) (sign_in bytes) fault
