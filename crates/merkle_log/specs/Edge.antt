-- What is read of a log's rows for a size that it had: the rows' first digests, and a last one at the right edge.
use Rattle.std.specs.Prelude.{◌+◌, ◌-◌, ◌/◌, ◌%◌, ◌^◌, ◌<◌, ◌≤◌, ◌≡◌, ◌⊎◌, ◌==◌, nat_lt, ◌++◌, ℕ, zero, suc, if◌then◌else◌, List, [], ◌∷◌, length, map, take, get_or, Result, Ok, Err, MatchResult, Option, Some, None, count_ones}
use Rattle.ark_base.specs.declared.error.Error.{Error}
use Rattle.ark_base.specs.declared.error.Error.TheVariants.{OutOfMemory}
use Rattle.ark_base.specs.Outcome.{Outcome, ◌>>=◌}
use Rattle.ark_paths.specs.Pair.{Digest}
use Rattle.merkle_log.specs.Trees.{path}
use Rattle.merkle_log.specs.Walk.{joined, has_beside}
use Rattle.merkle_log.specs.Log.{NodeHash}

-- the last digest behind the first s of a row: one that was hashed, or the row's own where its place is complete
abbrev pub last_seen : {A : Type 0} → (A → Digest) → List Digest → ℕ → Option A → Digest
last_seen numbers row s None = get_or row s []
last_seen numbers row s (Some last) = numbers last

-- The row has these digests.
abbrev pub HasLast : {A : Type 0} → List Digest → ℕ → Option A → Type 0
HasLast row s None = s < length row
HasLast row s (Some last) = s ≤ length row

-- the last digest of a row of a log that has more digests of its own, one level up
abbrev pub last_raised : NodeHash → List Digest → ℕ → Digest → Outcome Digest
last_raised hash row s last = if s % 2 == 1 then (hash (get_or row (s - 1) []) last) else (Ok last)

-- how many pairs of an incomplete right edge the root of the first leaves is hashed from: between two of the complete
-- trees into which they fall there is one
abbrev pub root_pairs : ℕ → ℕ
root_pairs size = count_ones size - 1

-- how many of them are left to hash above the first s digests of a row and a last one
abbrev pub pairs_left : {A : Type 0} → ℕ → Option A → ℕ
pairs_left s None = root_pairs (s + 1)
pairs_left s (Some last) = count_ones s

-- A last digest behind s others was raised, and the count of hashed pairs went from one number to another: by so many
-- fewer are left to hash, above any number of digests with the parity of s.
abbrev pub Tallies : {A : Type 0} → ℕ → ℕ → ℕ → Option A → Option A → Type 0
Tallies before after s last up = (edge : ℕ) → edge % 2 ≡ s % 2
    → after + pairs_left (edge / 2) up ≡ before + pairs_left edge last

-- Beside the way of an index of n leaves, at most 2 ^ k, one subtree may be incomplete: the back part at the first
-- split with the index in front. So many leaves it has; none where the index is the last.
abbrev pub back_leaves : ℕ → ℕ → ℕ → ℕ
back_leaves zero i n = 0
back_leaves (suc j) i n =
    if nat_lt (2 ^ j) n
    then (if nat_lt i (2 ^ j) then (n - 2 ^ j) else back_leaves j (i - 2 ^ j) (n - 2 ^ j))
    else (back_leaves j i n)

-- how many pairs are hashed for the digests beside the way of an index of the first leaves: those of that subtree's
-- root
abbrev pub beside_pairs : ℕ → ℕ → ℕ
beside_pairs i size = root_pairs (back_leaves size i size)

-- how many of them are left to hash, k levels below the root, beside the way of an index of a row with s digests and a
-- last one
abbrev pub beside_left : {A : Type 0} → ℕ → ℕ → ℕ → Option A → ℕ
beside_left k i s last = pairs_left (back_leaves k i (s + 1) - 1) last

-- all of these, or the first error
abbrev pub all_of : List (Outcome Digest) → Outcome (List Digest)
all_of [] = Ok []
all_of (first ∷ rest) = do
  digest ← first
  digests ← all_of rest
  Ok (digest ∷ digests)

-- the digest beside an index of a row, if one stands there, where `last` stands behind the first s digests
abbrev pub digest_beside : List Digest → ℕ → ℕ → Digest → Digest
digest_beside row i s last =
    if i % 2 == 1 then (get_or row (i - 1) []) else (if nat_lt (i + 1) s then (get_or row (i + 1) []) else last)

-- the digest beside an index of such a row as a list, empty where none stands there
abbrev pub digests_beside : List Digest → ℕ → ℕ → Digest → List Digest
digests_beside row i s last = if has_beside i s then (digest_beside row i s last ∷ []) else []

-- The last digest is raised one level, where a path from index i still needs it.
abbrev pub RaisesNeeded : {A R : Type 0} → (R → Error) → NodeHash → List Digest → ℕ → ℕ → Digest → (A → Digest)
    → Result A R → Type 0
RaisesNeeded why hash row i s last seen result =
    MatchResult result (λ up. i / 2 < s / 2 → last_raised hash row s last ≡ Ok (seen up))
    (λ refusal. (why refusal ≡ OutOfMemory) ⊎ (i / 2 < s / 2) × (last_raised hash row s last ≡ Err (why refusal)))

-- the digests of a path, behind others
abbrev pub path_behind : List Digest → List Digest → Outcome (List Digest)
path_behind sofar rest = Ok (sofar ++ rest)

-- the first s digests of a row and a last one
abbrev pub row_with : List Digest → ℕ → Outcome Digest → List (Outcome Digest)
row_with row s last = map Ok (take s row) ++ (last ∷ [])

-- the path of an index of such a row, k levels up, behind other digests
abbrev pub path_with : NodeHash → Digest → ℕ → List Digest → ℕ → ℕ → Digest → List Digest → Outcome (List Digest)
path_with hash empty k row i s last sofar =
    all_of (path (joined hash) (Ok empty) k i (row_with row s (Ok last))) >>= path_behind sofar

-- the digest of an index of a row, unless it is the row's first
abbrev pub seed_digests : List Digest → ℕ → List Digest
seed_digests row i = if i == 0 then [] else (get_or row i [] ∷ [])
