-- Bytes that are cut at a mark, and lines.
use Rattle.std.specs.Prelude.{ℕ, ◌==◌, if◌then◌else◌, List, [], ◌∷◌, Option, Some, None}

-- a byte in front of the first of two parts
abbrev pub onto_front : ℕ → Option (List ℕ × List ℕ) → Option (List ℕ × List ℕ)
onto_front byte None = None
onto_front byte (Some (front, rest)) = Some (byte ∷ front, rest)

-- what stands before the first mark, and what stands behind it; nothing where there is no mark
abbrev pub cut : ℕ → List ℕ → Option (List ℕ × List ℕ)
cut mark [] = None
cut mark (byte ∷ bytes) = if byte == mark then Some ([], bytes) else onto_front byte (cut mark bytes)

-- a byte at the front of the first line
abbrev pub onto_first : ℕ → List (List ℕ) → List (List ℕ)
onto_first byte [] = (byte ∷ []) ∷ []
onto_first byte (line ∷ lines) = (byte ∷ line) ∷ lines

-- the lines of some bytes: each ends before a line feed, the last perhaps with the bytes
abbrev pub lines_in : List ℕ → List (List ℕ)
lines_in [] = []
lines_in (byte ∷ bytes) = if byte == 10 then [] ∷ lines_in bytes else onto_first byte (lines_in bytes)

-- a line feed that ends a text, and what stands behind the line feed that follows it, if one does
abbrev pub if_feed : ℕ → List ℕ → Option (List ℕ × List ℕ)
if_feed byte [] = None
if_feed byte (next ∷ rest) = if byte == 10 then (if next == 10 then Some (byte ∷ [], rest) else None) else None

-- the last of two places that two parts are cut at
abbrev pub or_here : ℕ → List ℕ → Option (List ℕ × List ℕ) → Option (List ℕ × List ℕ)
or_here byte bytes None = if_feed byte bytes
or_here byte bytes (Some (front, rest)) = Some (byte ∷ front, rest)

-- what stands before the last empty line, with its line feed, and what stands behind that line
abbrev pub cut_at_blank : List ℕ → Option (List ℕ × List ℕ)
cut_at_blank [] = None
cut_at_blank (byte ∷ bytes) = or_here byte bytes (cut_at_blank bytes)

-- the pieces of some bytes: each ends before a mark, the last perhaps with the bytes
abbrev pub pieces_in : ℕ → List ℕ → List (List ℕ)
pieces_in mark [] = []
pieces_in mark (byte ∷ bytes) =
    if byte == mark then [] ∷ pieces_in mark bytes else onto_first byte (pieces_in mark bytes)
