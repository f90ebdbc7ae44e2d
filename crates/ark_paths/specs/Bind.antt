-- What a path of the tree's height says of a leaf.
use Rattle.std.specs.Prelude.{◌≡◌, ◌≢◌, ◌⊎◌, ◌<◌, ◌≤◌, ℕ, zero, suc, ◌-◌, ◌^◌, ◌/◌, ◌%◌, ◌&&◌, not, nat_lt, Bool, true, if◌then◌else◌, Option, Some, None, List, [], ◌∷◌, length, map, take, drop, get_or, Ok, Err}
use Rattle.std.specs.Iterator.{Yields}
use Rattle.ark_base.specs.Outcome.{Outcome, ◌>>=◌}
use Rattle.ark_paths.specs.Index.{IsTreeSize, bit_at}
use Rattle.ark_paths.specs.Pair.{Digest, HashPair, Hashes, digest_eq}
use Rattle.ark_paths.specs.Path.{Way, path_root}
use Rattle.ark_paths.specs.Root.{place, root, upper_levels}
use Rattle.ark_paths.specs.Rows.{part}
use Rattle.ark_paths.specs.Tree.{HashedTree, HoldsLeaf, root_digest}

-- two digests, left first: the first of them stands right where the bit is set
abbrev pub couple : Bool → Digest → Digest → Digest × Digest
couple is_right a b = if is_right then (b, a) else (a, b)

-- the roots of the halves of 2 ^ (k + 1) leaf digests, or the two leaf digests
abbrev pub halves : HashPair → ℕ → List Digest → Digest × Digest
halves h zero digests = (get_or digests 0 [], get_or digests 1 [])
halves h (suc k) digests =
    (root_digest (place h k (take (2 ^ suc k) digests)), root_digest (place h k (drop (2 ^ suc k) digests)))

-- The tree's pair at a level, counted from the root: that of the part of the leaf digests which holds the index modulo
-- the size.
abbrev pub tree_pair : HashPair → List Digest → ℕ → ℕ → Digest × Digest
tree_pair h digests index level =
    let k = upper_levels digests - level in
    halves h k (part k (index % length digests / 2 ^ suc k) digests)

-- the pair below whose digest the first of some digests of a path stands
abbrev pub pair_beside : HashPair → Way → Digest → List Digest → Outcome (Digest × Digest)
pair_beside h way digest [] = Ok (couple (bit_at way.index 0) digest way.sibling)
pair_beside h way digest (first ∷ rest) = do
  below ← path_root h (record { sibling = way.sibling; above = rest; index = way.index }) digest
  Ok (couple (bit_at way.index (length (first ∷ rest))) below first)

-- the path's pair at a level, counted from the root
abbrev pub path_pair : HashPair → Way → Digest → ℕ → Outcome (Digest × Digest)
path_pair h way digest level = pair_beside h way digest (drop level way.above)

-- the hash of the pairs at a level, where a number of levels stand above the lowest
abbrev pub hash_at : HashPair → ℕ → ℕ → Digest × Digest → Outcome Digest
hash_at h levels level pair = if nat_lt level levels then h.upper pair.0 pair.1 else h.bottom pair.0 pair.1

-- ---- where the pairs differ

-- whether there is a pair, and it is another one
abbrev pub is_other : Outcome (Digest × Digest) → Digest × Digest → Bool
is_other (Ok a) b = not (digest_eq a.0 b.0 && digest_eq a.1 b.1)
is_other (Err error) b = true

-- the first level at which something holds, from one on and among a count of levels
abbrev pub first_level : (ℕ → Bool) → ℕ → ℕ → Option ℕ
first_level holds level zero = None
first_level holds level (suc count) = if holds level then Some level else first_level holds (suc level) count

-- the first level from the root down at which the pairs of path and tree differ
abbrev pub difference : HashPair → List Digest → Way → Digest → Option ℕ
difference h digests way digest =
    first_level (λ level. is_other (path_pair h way digest level) (tree_pair h digests way.index level)) 0
    (suc (upper_levels digests))

-- At this level the pairs of path and tree differ and hash alike, and at all levels above they agree.
pub record Collides (h : HashPair) (digests : List Digest) (way : Way) (digest : Digest) (level : ℕ) : Type 0 where
  pub in_range : level ≤ upper_levels digests
  pub given : Digest × Digest
  pub given_is : path_pair h way digest level ≡ Ok given
  pub differ : given ≢ tree_pair h digests way.index level
  pub common : Digest
  pub given_hash : hash_at h (upper_levels digests) level given ≡ Ok common
  pub tree_hash : hash_at h (upper_levels digests) level (tree_pair h digests way.index level) ≡ Ok common
  pub agree_above : (l : ℕ) → l < level → path_pair h way digest l ≡ Ok (tree_pair h digests way.index l)

-- ---- of a tree and a leaf

-- The pairs of a path for a leaf and of the tree collide at a level.
abbrev pub CollidesAt : {A : Type 0} → HashedTree A → A → Way → ℕ → Type 0
CollidesAt tree leaf way level = (digest : Digest) × (tree.hashes.leaf leaf ≡ Ok digest)
    × Collides tree.hashes.pair tree.leaves way digest level

-- The leaf stands in the tree at an index, or the pairs of a path for it and of the tree collide at a level.
abbrev pub StandsOrCollides : {A : Type 0} → HashedTree A → ℕ → A → Way → Type 0
StandsOrCollides tree index leaf way = HoldsLeaf tree index leaf ⊎ ((level : ℕ) × CollidesAt tree leaf way level)

-- ---- of a root alone

-- A path binds a leaf to a root: in every tree of these hashes with that root whose height the path has, the leaf
-- stands at the path's index modulo the size, or pairs collide.
abbrev pub BindsLeaf : {A : Type 0} → Hashes A → Digest → A → Way → Type 0
BindsLeaf hashes root_given leaf way =
    (digests : List Digest) → IsTreeSize (length digests) → length way.above ≡ upper_levels digests
    → root hashes.pair digests ≡ Ok root_given
    → StandsOrCollides (record { hashes = hashes; leaves = digests }) (way.index % length digests) leaf way

-- Each path is there, and binds the leaf at its place.
abbrev pub BindsLeaves : {A : Type 0} → Hashes A → Digest → List A → List (Option Way) → Type 0
BindsLeaves hashes root_given leaves [] = Unit {0}
BindsLeaves hashes root_given leaves (None ∷ ways) = ⊥
BindsLeaves hashes root_given [] (Some way ∷ ways) = ⊥
BindsLeaves hashes root_given (leaf ∷ leaves) (Some way ∷ ways) =
    BindsLeaf hashes root_given leaf way × BindsLeaves hashes root_given leaves ways

-- Paths bind the leaves that an iterator gives first, each as view sees it.
pub record BindsGiven {S A B : Type 0} (steps : S → Option B → S → Type 0) (view : B → A) (start : S)
    (hashes : Hashes A) (root_given : Digest) (ways : List (Option Way)) : Type 0 where
  pub taken : List B
  pub after : S
  pub gave : Yields steps start taken after
  pub bound : BindsLeaves hashes root_given (map view taken) ways
