-- Leaves that stand one behind the other.
use Rattle.std.specs.Prelude.{ℕ, List, [], ◌∷◌, length, take, drop, Option, Some, None, nat_lt, if◌then◌else◌}
use Rattle.std.specs.Option.{option_map}

-- the parts of some bytes that have these lengths in turn, where they are all of the bytes
abbrev pub parts_by : List ℕ → List ℕ → Option (List (List ℕ))
parts_by bytes [] = if nat_lt 0 (length bytes) then None else Some []
parts_by bytes (len ∷ lengths) =
    if nat_lt (length bytes) len then None
    else (option_map (λ parts. take len bytes ∷ parts) (parts_by (drop len bytes) lengths))
