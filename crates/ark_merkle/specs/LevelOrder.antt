-- Rows of digests in one list.
use Rattle.std.specs.Prelude.{ℕ, zero, suc, ◌-◌, ◌^◌, List, [], ◌∷◌, ◌++◌, take, drop}
use Rattle.ark_paths.specs.Pair.{Digest}

-- the rows of n levels in level order, the lowest row first: the root stands at 0, and below what stands at place k
-- that at 2 k + 1 and 2 k + 2, so a row of 2 ^ n digests begins at 2 ^ n - 1
abbrev pub rows_in_order : ℕ → List Digest → List (List Digest)
rows_in_order zero digests = []
rows_in_order (suc n) digests = take (2 ^ n) (drop (2 ^ n - 1) digests) ∷ rows_in_order n digests

-- the rows of n levels that follow one another, the lowest row first
abbrev pub rows_in_turn : ℕ → List Digest → List (List Digest)
rows_in_turn zero digests = []
rows_in_turn (suc n) digests = take (2 ^ n) digests ∷ rows_in_turn n (drop (2 ^ n) digests)

-- rows of n levels that follow one another, the lowest row first, put in the other order
abbrev pub highest_row_first : {A : Type 0} → ℕ → List A → List A
highest_row_first zero digests = []
highest_row_first (suc n) digests = highest_row_first n (drop (2 ^ n) digests) ++ take (2 ^ n) digests
