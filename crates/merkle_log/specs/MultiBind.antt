-- What an accepted multi-proof says of each list of digests with the root.
use Rattle.std.specs.Prelude.{◌≡◌, ◌⊎◌, ◌<◌, ◌≤◌, ◌+◌, ℕ, suc, true, List, length, map, Ok}
use Rattle.ark_base.specs.Outcome.{Outcome}
use Rattle.ark_paths.specs.Pair.{Digest, Hashes}
use Rattle.ark_paths.specs.Root.{all_hashes}
use Rattle.merkle_log.specs.Collision.{Collide, IsTreePair}
use Rattle.merkle_log.specs.Log.{NodeHash, merkle_tree_hash}
use Rattle.merkle_log.specs.Multi.{Known, middle, known_left, known_right, known_hash, digests_at, multi_proof, are_multi_indexes}

-- From what is known below a place, whose level and place come first, the check hashes this pair below another place:
-- below this one itself, or below one that stands below it.
pub data HashesPair (hash : NodeHash) (size : ℕ) : ℕ → ℕ → Known → ℕ → ℕ → Digest × Digest → Type 0 where
  Own : {level place : ℕ} {known : Known} {pair : Digest × Digest} → 0 < length known.indexes
      → middle level place < size
      → known_hash hash size level (place + place) (known_left level place known) ≡ Ok pair.0
      → known_hash hash size level (place + place + 1) (known_right size level place known) ≡ Ok pair.1
      → HashesPair hash size (suc level) place known level place pair
  InLeft : {level place l p : ℕ} {known : Known} {pair : Digest × Digest} → middle level place < size
      → HashesPair hash size level (place + place) (known_left level place known) l p pair
      → HashesPair hash size (suc level) place known l p pair
  InRight : {level place l p : ℕ} {known : Known} {pair : Digest × Digest} → middle level place < size
      → HashesPair hash size level (place + place + 1) (known_right size level place known) l p pair
      → HashesPair hash size (suc level) place known l p pair
  Alone : {level place l p : ℕ} {known : Known} {pair : Digest × Digest} → size ≤ middle level place
      → HashesPair hash size level (place + place) known l p pair → HashesPair hash size (suc level) place known l p
      pair

-- Below a place of this level the check of a multi-proof hashes another pair than that of the list's own tree, and both
-- hash alike.
pub record MultiCollidesAt (hash : NodeHash) (empty : Digest) (digests : List Digest) (known : Known)
    (level place : ℕ) : Type 0 where
  pub pair : Digest × Digest
  pub hashed : HashesPair hash (length digests) (length digests) 0 known level place pair
  pub own : Digest × Digest
  pub tree : IsTreePair hash (Ok empty) digests level place own
  pub collide : Collide hash pair own

-- The digests stand in the list at their indexes, or below some place the check's pair and that of the list's tree
-- collide.
abbrev pub StandOrCollide : NodeHash → Digest → List Digest → Known → Type 0
StandOrCollide hash empty digests known = (digests_at digests known.indexes ≡ known.leaves)
    ⊎ ((level : ℕ) × (place : ℕ) × MultiCollidesAt hash empty digests known level place)

-- A multi-proof binds digests to a root: so they are in each list of this size with this root.
abbrev pub BindsDigests : NodeHash → Digest → ℕ → Known → Type 0
BindsDigests hash root size known = (empty : Digest) (digests : List Digest) → length digests ≡ size
    → merkle_tree_hash hash empty digests ≡ Ok root → StandOrCollide hash empty digests known

-- It is the multi-proof of a list with this root and size, where the digests stand at the indexes.
pub record IsMultiProof (hash : NodeHash) (root : Digest) (size : ℕ) (known : Known) : Type 0 where
  pub empty : Digest
  pub digests : List Digest
  pub size_is : length digests ≡ size
  pub form : are_multi_indexes size known.indexes ≡ true
  pub root_is : merkle_tree_hash hash empty digests ≡ Ok root
  pub leaves_are : digests_at digests known.indexes ≡ known.leaves
  pub proof_is : multi_proof hash empty known.indexes digests ≡ map Ok known.proof

-- ---- of leaves

-- A multi-proof binds leaves to a root: they have hashes, and the proof binds those.
abbrev pub BindsLogLeaves : {A : Type 0} → Hashes A → Digest → ℕ → List ℕ → List A → List Digest → Type 0
BindsLogLeaves hashes root size indexes leaves proof = (digests : List Digest)
    × (all_hashes hashes.leaf leaves ≡ Ok digests)
    × BindsDigests hashes.pair.upper root size (record { indexes = indexes; leaves = digests; proof = proof })

-- It is the multi-proof of a list where the leaves' hashes stand at the indexes.
abbrev pub IsLeavesProof : {A : Type 0} → Hashes A → Digest → ℕ → List ℕ → List A → List Digest → Type 0
IsLeavesProof hashes root size indexes leaves proof = (digests : List Digest)
    × (all_hashes hashes.leaf leaves ≡ Ok digests)
    × IsMultiProof hashes.pair.upper root size (record { indexes = indexes; leaves = digests; proof = proof })

-- The bytes spell a multi-proof that binds the leaves.
abbrev pub ShowsLogLeaves : {A : Type 0} → Hashes A → Digest → ℕ → List ℕ → List A → Outcome (List Digest) → Type 0
ShowsLogLeaves hashes root size indexes leaves proof =
    (digests : List Digest) × (proof ≡ Ok digests) × BindsLogLeaves hashes root size indexes leaves digests
