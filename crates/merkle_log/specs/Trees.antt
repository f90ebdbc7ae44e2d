-- Merkle trees over any number of digests (RFC 9162, section 2.1).
use Rattle.std.specs.Prelude.{ℕ, zero, suc, ◌-◌, ◌*◌, ◌^◌, ◌==◌, nat_lt, Bool, false, if◌then◌else◌, List, [], ◌∷◌, ◌++◌, length, take, drop, get_or}

-- The Merkle tree hash of at most 2 ^ k values: more than 2 ^ j of them, where 2 ^ j is the largest power of two below
-- their number, are split behind the first 2 ^ j. One value is its own hash, and no value has the hash `none`.
abbrev pub tree_hash : {A : Type 0} → (A → A → A) → A → ℕ → List A → A
tree_hash join none zero xs = get_or xs 0 none
tree_hash join none (suc j) xs =
    if nat_lt (2 ^ j) (length xs)
    then (join (tree_hash join none j (take (2 ^ j) xs)) (tree_hash join none j (drop (2 ^ j) xs)))
    else (tree_hash join none j xs)

-- The hash of a place of a tree, `level` levels above the values: that of the 2 ^ level values from place * 2 ^ level
-- on, or of as many as there are.
abbrev pub node : {A : Type 0} → (A → A → A) → A → ℕ → ℕ → List A → A
node join none level place xs = tree_hash join none level (take (2 ^ level) (drop (place * 2 ^ level) xs))

-- PATH(i, D): the hashes of the halves that do not hold index i, from the smallest up.
abbrev pub path : {A : Type 0} → (A → A → A) → A → ℕ → ℕ → List A → List A
path join none zero i xs = []
path join none (suc j) i xs =
    let front = take (2 ^ j) xs in
    let back = drop (2 ^ j) xs in
    if nat_lt (2 ^ j) (length xs)
    then (if nat_lt i (2 ^ j)
    then (path join none j i front ++ (tree_hash join none j back ∷ []))
    else (path join none j (i - 2 ^ j) back ++ (tree_hash join none j front ∷ [])))
    else (path join none j i xs)

-- SUBPROOF(m, D, b): what shows that the first m values stand in front. b says that their hash is known.
abbrev pub subproof : {A : Type 0} → (A → A → A) → A → ℕ → ℕ → List A → Bool → List A
subproof join none zero m xs known = if known then [] else (tree_hash join none zero xs ∷ [])
subproof join none (suc j) m xs known =
    let front = take (2 ^ j) xs in
    let back = drop (2 ^ j) xs in
    if m == length xs
    then (if known then [] else (tree_hash join none (suc j) xs ∷ []))
    else (if nat_lt (2 ^ j) (length xs)
    then (if nat_lt (2 ^ j) m
    then (subproof join none j (m - 2 ^ j) back false ++ (tree_hash join none j front ∷ []))
    else (subproof join none j m front known ++ (tree_hash join none j back ∷ [])))
    else (subproof join none j m xs known))
