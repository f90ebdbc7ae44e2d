-- Numbers in decimal.
use Rattle.std.specs.Prelude.{ℕ, ◌^◌, ◌==◌, ◌&&◌, not, nat_lt, length, get_or, List, Bool, if◌then◌else◌, Option, Some, None}
use Rattle.std.specs.Str.{all_ascii_digits}
use Rattle.std.specs.Str.Parse.{digits_value}

-- digits, of which the first is no zero where more follow, and a number below 2 ^ 64
abbrev pub is_number : List ℕ → Bool
is_number text =
    nat_lt 0 (length text)
    && (all_ascii_digits text
    && (not (nat_lt 1 (length text) && (get_or text 0 0 == 48)) && nat_lt (digits_value 10 text) (2 ^ 64)))

-- the number that bytes spell in decimal
abbrev pub decimal_number : List ℕ → Option ℕ
decimal_number text = if is_number text then Some (digits_value 10 text) else None
