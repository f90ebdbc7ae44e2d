-- What tokens say.
use Rattle.std.specs.Prelude.{ℕ, nat_lt, length, List, [], if◌then◌else◌, Option, Some, None, codes, unwrap_or}
use Rattle.std.specs.Str.{bytes_eq}
use Rattle.std.specs.Result.{result_ok}
use Rattle.hex.specs.Hex.{decode_of, hex_digit_value}
use Rattle.ark_base.specs.Digits.{number_of_bytes}

-- the number of a hexadecimal digit of either case, or 255
abbrev pub digit_number : ℕ → ℕ
digit_number digit = unwrap_or (hex_digit_value digit) 255

-- the bytes that a token spells in hexadecimal, one or more
abbrev pub some_bytes_of : List ℕ → Option (List ℕ)
some_bytes_of token = if nat_lt 0 (length token) then result_ok (decode_of token) else None

-- the same, where `-` stands for no bytes
abbrev pub bytes_of : List ℕ → Option (List ℕ)
bytes_of token = if bytes_eq token (codes "-") then Some [] else some_bytes_of token

-- the number of one to eight bytes, the least first
abbrev pub number_of_some : Option (List ℕ) → Option ℕ
number_of_some None = None
number_of_some (Some bytes) = if nat_lt 8 (length bytes) then None else Some (number_of_bytes bytes)

-- the number of the bytes that a token spells in hexadecimal
abbrev pub number_of_token : List ℕ → Option ℕ
number_of_token token = number_of_some (some_bytes_of token)
