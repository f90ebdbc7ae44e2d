-- The digests above the leaf digests, row by row, the lowest row first.
use Rattle.std.specs.Prelude.{◌≡◌, ℕ, zero, suc, ◌*◌, ◌/◌, ◌<◌, ◌^◌, List, [], ◌∷◌, length, map, take, drop, get_or, Ok}
use Rattle.std.specs.declared.vec.Vec.{Vec}
use Rattle.ark_base.specs.Outcome.{Outcome, ◌>>=◌}
use Rattle.ark_paths.specs.Index.{neighbour}
use Rattle.ark_paths.specs.Pair.{Digest, HashPair}
use Rattle.ark_paths.specs.Root.{Root, place, all_hashes, upper_levels}

-- the neighbours in a row, from the left
abbrev pub couples : {A : Type 0} → List A → List (A × A)
couples [] = []
couples (a ∷ []) = []
couples (a ∷ b ∷ rest) = (a, b) ∷ couples rest

-- the hashes of the neighbours in a row, or the first refusal
abbrev pub row_above : (Digest → Digest → Outcome Digest) → List Digest → Outcome (List Digest)
row_above hash row = all_hashes (λ p. hash p.0 p.1) (couples row)

-- a row of 2 ^ k digests, and those above it
abbrev pub rows_from : (Digest → Digest → Outcome Digest) → ℕ → List Digest → Outcome (List (List Digest))
rows_from hash zero row = Ok (row ∷ [])
rows_from hash (suc k) row = do
  next ← row_above hash row
  rows ← rows_from hash k next
  Ok (row ∷ rows)

-- the rows above 2 ^ (m + 1) leaf digests
abbrev pub rows_of : HashPair → ℕ → List Digest → Outcome (List (List Digest))
rows_of h m digests = do
  row ← row_above h.bottom digests
  rows_from h.upper m row

-- the leaf digests below place q of row k
abbrev pub part : ℕ → ℕ → List Digest → List Digest
part k q digests = take (2 ^ suc k) (drop (q * 2 ^ suc k) digests)

-- each row is as long as its level says
abbrev pub AreLevels : ℕ → List (List Digest) → Type 0
AreLevels size rows = (k : ℕ) → k < length rows → length (get_or rows k []) * 2 ^ suc k ≡ size

-- the rows are levels above fewer than 2 ^ 64 leaf digests, of which one has this index
pub record HoldsIndex (rows : List (List Digest)) (index : ℕ) : Type 0 where
  pub size : ℕ
  pub small : size < 2 ^ 64
  pub inside : index < size
  pub levels : AreLevels size rows

-- The rows are those of a tree with these leaf digests: each digest in them is the root of the leaf digests below it.
pub record IsTree (h : HashPair) (leaves : List Digest) (rows : List (List Digest)) : Type 0 where
  pub size : length leaves ≡ 2 ^ suc (upper_levels leaves)
  pub count : length rows ≡ suc (upper_levels leaves)
  pub levels : AreLevels (length leaves) rows
  pub roots : (k q : ℕ) → k < length rows → q < length (get_or rows k [])
      → place h k (part k q leaves) ≡ Root (get_or (get_or rows k []) q [])

-- the digests beside the way of an index below row k, from above down
abbrev pub beside_in : List (List Digest) → ℕ → ℕ → List Digest
beside_in rows zero index = []
beside_in rows (suc k) index = get_or (get_or rows k []) (neighbour (index / 2 ^ suc k)) [] ∷ beside_in rows k index

-- a list of digests, and a list of such lists, by their numbers
abbrev pub digests_of : {A Z : Type 0} → (A → Digest) → Vec A Z → List Digest
digests_of numbers digests = map numbers digests.items

-- rows of digests, by their numbers
abbrev pub rows_seen : {A Z Y : Type 0} → (A → Digest) → Vec (Vec A Z) Y → List (List Digest)
rows_seen numbers rows = map (digests_of numbers) rows.items
