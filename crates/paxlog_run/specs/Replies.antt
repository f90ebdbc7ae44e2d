-- The lines that the command writes of a log.
use Rattle.std.specs.Prelude.{List, [], ◌∷◌, ◌++◌, ℕ}
use Rattle.hex.specs.Hex.{encode_lower}

-- bytes in hexadecimal, and a line feed
abbrev pub hex_line : List ℕ → List ℕ
hex_line bytes = encode_lower bytes ++ 10 ∷ []
