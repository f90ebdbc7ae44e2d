-- The lines of a session, and the tokens of a line.
use Rattle.std.specs.Prelude.{◌≡◌, ℕ, ◌==◌, true, if◌then◌else◌, List, [], ◌∷◌, ◌++◌, Option, Some, None, slice_index, SomeIndex}

-- a byte at the front of the first piece
abbrev pub onto_first : ℕ → List (List ℕ) → List (List ℕ)
onto_first b [] = (b ∷ []) ∷ []
onto_first b (piece ∷ pieces) = (b ∷ piece) ∷ pieces

-- ---- lines

-- the lines of some bytes: each ends with a line feed, the last perhaps with the bytes
abbrev pub whole_lines_of : List ℕ → List (List ℕ)
whole_lines_of [] = []
whole_lines_of (b ∷ bytes) = if b == 10 then [] ∷ whole_lines_of bytes else onto_first b (whole_lines_of bytes)

-- a line as it is written
abbrev pub with_line_feed : List ℕ → List ℕ
with_line_feed line = line ++ 10 ∷ []

-- the first line of some bytes ends among them
abbrev pub HoldsLineFeed : List ℕ → Type 0
HoldsLineFeed bytes = SomeIndex bytes (λ i. (slice_index bytes i == 10) ≡ true)

-- ---- tokens

-- the tokens of a line: what stands between its spaces, so one token more than there are spaces
abbrev pub tokens_of : List ℕ → List (List ℕ)
tokens_of [] = [] ∷ []
tokens_of (b ∷ bytes) = if b == 32 then [] ∷ tokens_of bytes else onto_first b (tokens_of bytes)

-- the tokens of what is left of a line, if a space came before it
abbrev pub tokens_left : Option (List ℕ) → List (List ℕ)
tokens_left None = []
tokens_left (Some bytes) = tokens_of bytes
