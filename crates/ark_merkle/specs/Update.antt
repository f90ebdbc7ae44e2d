-- Changed leaves.
use Rattle.std.specs.Prelude.{◌≡◌, ◌<◌, ℕ, suc, ◌/◌, ◌^◌, Bool, List, [], length, get_or, set, Ok}
use Rattle.ark_base.specs.Outcome.{Outcome, ◌>>=◌}
use Rattle.ark_paths.specs.Pair.{Digest, HashPair, digest_eq}
use Rattle.ark_paths.specs.Root.{Root, place, root, leaves_with_root, upper_levels}
use Rattle.ark_paths.specs.Tree.{HashedTree, with_hashes}
use Rattle.ark_paths.specs.Rows.{part}

-- the leaf digests with that of a leaf at an index, where they have a root
abbrev pub changed_leaves : HashPair → Outcome Digest → ℕ → List Digest → Outcome (List Digest)
changed_leaves h leaf index digests = do
  digest ← leaf
  leaves_with_root h (set digests index digest)

-- the tree with a leaf at an index
abbrev pub with_leaf : {A : Type 0} → HashedTree A → ℕ → A → Outcome (HashedTree A)
with_leaf tree index leaf =
    with_hashes tree.hashes (changed_leaves tree.hashes.pair (tree.hashes.leaf leaf) index tree.leaves)

-- the root of the leaf digests with that of a leaf at an index
abbrev pub new_root : HashPair → Outcome Digest → ℕ → List Digest → Outcome Digest
new_root h leaf index digests = do
  digest ← leaf
  root h (set digests index digest)

-- whether that root is the asserted one, or its refusal
abbrev pub change_agrees : {A : Type 0} → HashedTree A → ℕ → A → Digest → Outcome Bool
change_agrees tree index leaf asserted = do
  new ← new_root tree.hashes.pair (tree.hashes.leaf leaf) index tree.leaves
  Ok (digest_eq new asserted)

-- The digests are those on the way of an index, from the lowest row up: the roots of the parts that hold it.
abbrev pub AreOnWay : HashPair → List Digest → ℕ → List Digest → Type 0
AreOnWay h digests index way = (k : ℕ) → k < length way
    → place h k (part k (index / 2 ^ suc k) digests) ≡ Root (get_or way k [])

-- The digests are all on the way of an index at which this leaf digest stands.
pub record ChangesWay (h : HashPair) (digests : List Digest) (index : ℕ) (digest : Digest) (way : List Digest)
    : Type 0 where
  pub whole : length way ≡ suc (upper_levels digests)
  pub on_way : AreOnWay h (set digests index digest) index way
