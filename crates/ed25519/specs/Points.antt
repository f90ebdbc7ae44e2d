-- What stands between the code and the points of edwards25519: coordinates of elements, and the exponents of square
-- roots.
use Rattle.std.specs.Prelude.{ℕ, ◌-◌, ◌^◌}
use Rattle.edwards.specs.Edwards.{Coordinates}
use Rattle.ed25519.specs.Values.{Fp, value}

-- the coordinates that two elements of the field are
abbrev pub coordinates_of : Fp → Fp → Coordinates
coordinates_of x y = record { x = value x; y = value y }

-- (p - 1) / 2
unfoldable pub half : ℕ
half = 28948022309329048855892746252171976963317496166410141009864396001978282409974

-- (p + 3) / 8: the power to this of a square is a root, or one times a root of -1
unfoldable pub eighth : ℕ
eighth = 7237005577332262213973186563042994240829374041602535252466099000494570602494

-- the number of n binary digits 1
unfoldable pub binary_ones : ℕ → ℕ
binary_ones n = 2 ^ n - 1
