-- The root of leaf digests, by repeated halving.
use Rattle.std.specs.Prelude.{ℕ, zero, suc, ◌-◌, ◌^◌, List, [], ◌∷◌, length, take, drop, get_or, nat_lt, if◌then◌else◌, Ok, Err}
use Rattle.ark_base.specs.declared.error.Error.{Error}
use Rattle.ark_base.specs.Outcome.{Outcome, ◌>>=◌}
use Rattle.ark_paths.specs.Index.{log2}
use Rattle.ark_paths.specs.Pair.{Digest, HashPair}

-- a place of a list of leaf digests: its root, or the refusal in it, with the level of the pair that refused (0 for two
-- leaf digests)
pub data Place : Type 0 where
  Root : (digest : Digest) → Place
  Refused : (level : ℕ) (error : Error) → Place

-- what a pair of a level gives
abbrev pub place_at : ℕ → Outcome Digest → Place
place_at level (Ok digest) = Root digest
place_at level (Err error) = Refused level error

-- Two halves make a place: their roots are hashed. Where a half has a refusal, the lower one decides, the left one
-- among equals.
abbrev pub place_of_halves : HashPair → ℕ → Place → Place → Place
place_of_halves h level (Root a) (Root b) = place_at level (h.upper a b)
place_of_halves h level (Root a) (Refused l e) = Refused l e
place_of_halves h level (Refused k d) (Root b) = Refused k d
place_of_halves h level (Refused k d) (Refused l e) = if nat_lt l k then Refused l e else Refused k d

-- the place of 2 ^ (m + 1) leaf digests
abbrev pub place : HashPair → ℕ → List Digest → Place
place h zero digests = place_at 0 (h.bottom (get_or digests 0 []) (get_or digests 1 []))
place h (suc m) digests =
    place_of_halves h (suc m) (place h m (take (2 ^ suc m) digests)) (place h m (drop (2 ^ suc m) digests))

abbrev pub outcome_of : Place → Outcome Digest
outcome_of (Root digest) = Ok digest
outcome_of (Refused level error) = Err error

-- the root of 2 ^ (m + 1) leaf digests, or the refusal: that of the lowest pair, leftmost among equals
abbrev pub root_of : HashPair → ℕ → List Digest → Outcome Digest
root_of h m digests = outcome_of (place h m digests)

-- how many levels stand above the bottom pairs
abbrev pub upper_levels : List Digest → ℕ
upper_levels digests = log2 (length digests) - 1

-- the root of a power of two above one of leaf digests, or the refusal
abbrev pub root : HashPair → List Digest → Outcome Digest
root h digests = root_of h (upper_levels digests) digests

-- the digest of each leaf, from the left, or the first refusal
abbrev pub all_hashes : {A : Type 0} → (A → Outcome Digest) → List A → Outcome (List Digest)
all_hashes hash [] = Ok []
all_hashes hash (leaf ∷ leaves) = do
  digest ← hash leaf
  digests ← all_hashes hash leaves
  Ok (digest ∷ digests)

-- these leaf digests, where they have a root
abbrev pub leaves_with_root : HashPair → List Digest → Outcome (List Digest)
leaves_with_root h digests = do
  _ ← root h digests
  Ok digests

-- the digests of the leaves, where they have a root
abbrev pub tree_leaves : {A : Type 0} → HashPair → (A → Outcome Digest) → List A → Outcome (List Digest)
tree_leaves h hash leaves = do
  digests ← all_hashes hash leaves
  leaves_with_root h digests
