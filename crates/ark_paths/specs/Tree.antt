-- What contracts see of a tree.
use Rattle.std.specs.Prelude.{◌≡◌, true, Ok, ℕ, zero, suc, ◌^◌, List, [], ◌∷◌, take, drop, get_or, if◌then◌else◌}
use Rattle.ark_paths.specs.Index.{bit_at, neighbour}
use Rattle.ark_base.specs.Outcome.{Outcome, ◌>>=◌}
use Rattle.ark_paths.specs.Pair.{Digest, HashPair, Hashes}
use Rattle.ark_paths.specs.Path.{Way, verdict}
use Rattle.ark_paths.specs.Root.{Place, Root, Refused, place, root, leaves_with_root, tree_leaves, upper_levels}

-- a tree: its parameters, and its leaf digests by their numbers
pub record Tree (L T : Type 0) : Type 0 where
  pub leaf_parameters : L
  pub pair_parameters : T
  pub leaves : List Digest

-- a tree with what its hashes answer in place of its parameters
pub record HashedTree (A : Type 0) : Type 0 where
  pub hashes : Hashes A
  pub leaves : List Digest

-- the tree of some hashes above leaf digests
abbrev pub tree_with : {A : Type 0} → Hashes A → List Digest → HashedTree A
tree_with hashes leaves = record { hashes = hashes; leaves = leaves }

-- ---- trees that are made

-- the tree with these hashes and leaf digests, or the refusal in their place
abbrev pub with_hashes : {A : Type 0} → Hashes A → Outcome (List Digest) → Outcome (HashedTree A)
with_hashes hashes digests = do
  leaves ← digests
  Ok (record { hashes = hashes; leaves = leaves })

-- the tree above leaf digests, where they have a root
abbrev pub tree_above : {A : Type 0} → Hashes A → List Digest → Outcome (HashedTree A)
tree_above hashes digests = with_hashes hashes (leaves_with_root hashes.pair digests)

-- the tree above the digests of leaves
abbrev pub tree_of : {A : Type 0} → Hashes A → List A → Outcome (HashedTree A)
tree_of hashes leaves = with_hashes hashes (tree_leaves hashes.pair hashes.leaf leaves)

-- ---- what a tree holds

-- the root of a tree
abbrev pub root_in : {A : Type 0} → HashedTree A → Outcome Digest
root_in tree = root tree.hashes.pair tree.leaves

-- A leaf stands at an index: its digest is the one there.
abbrev pub HoldsLeaf : {A : Type 0} → HashedTree A → ℕ → A → Type 0
HoldsLeaf tree index leaf = tree.hashes.leaf leaf ≡ Ok (get_or tree.leaves index [])

-- the root of a place that has one
abbrev pub root_digest : Place → Digest
root_digest (Root digest) = digest
root_digest (Refused level error) = []

-- ---- paths of a tree

-- the roots of the halves that do not hold the place of an index, from below the root down, for 2 ^ (m + 1) leaf
-- digests
abbrev pub halves_beside : HashPair → ℕ → ℕ → List Digest → List Digest
halves_beside h zero index digests = []
halves_beside h (suc m) index digests =
    let left = take (2 ^ suc m) digests in
    let right = drop (2 ^ suc m) digests in
    if bit_at index (suc m)
    then root_digest (place h m left) ∷ halves_beside h m index right
    else (root_digest (place h m right) ∷ halves_beside h m index left)

-- the path of an index: the digest beside its own, and the roots of the halves that do not hold it
abbrev pub own_path : HashPair → ℕ → List Digest → Way
own_path h i digests = record {
  sibling = get_or digests (neighbour i) [];
  above = halves_beside h (upper_levels digests) i digests;
  index = i;
}

-- the path of an index of a tree
abbrev pub path_in : {A : Type 0} → HashedTree A → ℕ → Way
path_in tree index = own_path tree.hashes.pair index tree.leaves

-- A path gives the tree's root for each leaf that stands at the index.
abbrev pub IsAccepted : {A : Type 0} → HashedTree A → ℕ → Way → Type 0
IsAccepted {A} tree index way = (leaf : A) (r : Digest) → HoldsLeaf tree index leaf → root_in tree ≡ Ok r
    → verdict tree.hashes.pair (tree.hashes.leaf leaf) way r ≡ Ok true
