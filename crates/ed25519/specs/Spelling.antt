-- Points of edwards25519 as 32 bytes (RFC 8032, 5.1.2).
use Rattle.std.specs.Prelude.{ℕ, ◌+◌, ◌*◌, ◌%◌, ◌^◌, List}
use Rattle.ark_base.specs.Digits.{bytes_of_number}
use Rattle.edwards.specs.Edwards.{Coordinates}

-- y, the least byte first, with the lowest bit of x as the highest bit
abbrev pub spelling : Coordinates → List ℕ
spelling a = bytes_of_number 32 (a.y + 2 ^ 255 * (a.x % 2))
