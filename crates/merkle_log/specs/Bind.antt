-- What an accepted proof says of each list of digests with the root.
use Rattle.std.specs.Prelude.{◌≡◌, ◌⊎◌, ◌<◌, ◌-◌, ℕ, List, [], length, map, take, get_or, Ok}
use Rattle.ark_paths.specs.Pair.{Digest, Hashes}
use Rattle.merkle_log.specs.Collision.{PathCollidesAt, HistoriesCollide, WalkCollides}
use Rattle.merkle_log.specs.Log.{NodeHash, merkle_tree_hash, inclusion_path, consistency_path}

-- ---- inclusion

-- The digest stands in the list at the index, or at some level the path's pair and the pair of the list's tree collide.
abbrev pub StandsOrPathCollides : NodeHash → Digest → List Digest → ℕ → Digest → List Digest → Type 0
StandsOrPathCollides hash empty digests index digest path = (get_or digests index [] ≡ digest)
    ⊎ ((level : ℕ) × PathCollidesAt hash (Ok empty) digests index (length digests - 1) digest path level)

-- A path binds a digest to a root: so it is in each list of this size with this root.
abbrev pub BindsDigest : NodeHash → Digest → ℕ → ℕ → Digest → List Digest → Type 0
BindsDigest hash root size index digest path = (empty : Digest) (digests : List Digest) → length digests ≡ size
    → merkle_tree_hash hash empty digests ≡ Ok root → StandsOrPathCollides hash empty digests index digest path

-- A path binds a leaf to a root: the leaf has a hash, and the path binds that.
abbrev pub BindsLogLeaf : {A : Type 0} → Hashes A → Digest → ℕ → ℕ → A → List Digest → Type 0
BindsLogLeaf hashes root size index leaf path = (digest : Digest) × (hashes.leaf leaf ≡ Ok digest)
    × BindsDigest hashes.pair.upper root size index digest path

-- The path is PATH(i, D) of a list with this root and size, where the digest stands at the index.
pub record IsInclusion (hash : NodeHash) (root : Digest) (size index : ℕ) (digest : Digest) (path : List Digest)
    : Type 0 where
  pub empty : Digest
  pub digests : List Digest
  pub size_is : length digests ≡ size
  pub inside : index < size
  pub root_is : merkle_tree_hash hash empty digests ≡ Ok root
  pub digest_is : get_or digests index [] ≡ digest
  pub path_is : inclusion_path hash empty index digests ≡ map Ok path

-- The same of a leaf, whose hash stands at the index.
abbrev pub IsLeafInclusion : {A : Type 0} → Hashes A → Digest → ℕ → ℕ → A → List Digest → Type 0
IsLeafInclusion hashes root size index leaf path = (digest : Digest) × (hashes.leaf leaf ≡ Ok digest)
    × IsInclusion hashes.pair.upper root size index digest path

-- ---- consistency

-- A path binds an old root to a new one: each list of the old size with the old root is the front of each list of the
-- new size with the new root, or two pairs collide at a place that is named.
abbrev pub BindsFront : NodeHash → ℕ → Digest → ℕ → Digest → List Digest → Type 0
BindsFront hash old_size old size new path = (empty : Digest) (old_digests digests : List Digest)
    → length old_digests ≡ old_size → length digests ≡ size
    → merkle_tree_hash hash empty old_digests ≡ Ok old → merkle_tree_hash hash empty digests ≡ Ok new
    → (old_digests ≡ take old_size digests)
    ⊎ HistoriesCollide hash (Ok empty) old_digests digests (old_size - 1) (size - 1) old path

-- One list is enough: the front of each list of the new size with the new root has the old root, or a pair of the walk
-- for the new root and one of the list's tree collide, at a level that is named.
abbrev pub BindsOldRoot : NodeHash → ℕ → Digest → ℕ → Digest → List Digest → Type 0
BindsOldRoot hash old_size old size new path = (empty : Digest) (digests : List Digest) → length digests ≡ size
    → merkle_tree_hash hash empty digests ≡ Ok new
    → (merkle_tree_hash hash empty (take old_size digests) ≡ Ok old)
    ⊎ WalkCollides hash (Ok empty) digests (old_size - 1) (size - 1) old path

-- The path is PROOF(m, D) of a list with the new root and size, whose first m digests have the old root.
pub record IsConsistency (hash : NodeHash) (old_size : ℕ) (old : Digest) (size : ℕ) (new : Digest)
    (path : List Digest) : Type 0 where
  pub empty : Digest
  pub digests : List Digest
  pub size_is : length digests ≡ size
  pub some : 0 < old_size
  pub inside : old_size < size
  pub old_is : merkle_tree_hash hash empty (take old_size digests) ≡ Ok old
  pub new_is : merkle_tree_hash hash empty digests ≡ Ok new
  pub path_is : consistency_path hash empty old_size digests ≡ map Ok path
