-- Trees that are kept in memory: digests in level order, the root first, the leaf digests last.
use Rattle.std.specs.Prelude.{◌≡◌, ◌≢◌, ◌⊎◌, ℕ, zero, suc, ◌+◌, ◌-◌, ◌*◌, ◌/◌, ◌<◌, ◌≤◌, ◌^◌, List, [], ◌∷◌, length, map, drop, get_or, nat_lt, Bool, ◌&&◌, Ok}
use Rattle.std.specs.List.{zip}
use Rattle.ark_paths.specs.Index.{IsTreeSize, is_tree_size, log2, neighbour}
use Rattle.ark_paths.specs.MultiPath.{MultiWay}
use Rattle.ark_paths.specs.Pair.{Digest, HashPair}
use Rattle.ark_paths.specs.Path.{Way}
use Rattle.ark_paths.specs.Rising.{rising_set}
use Rattle.ark_paths.specs.Sharing.{multi_path_of}
use Rattle.ark_merkle.specs.Batch.{puts}

-- the digest of two digests, left first
abbrev pub PlainNode : Type 0
PlainNode = Digest → Digest → Digest

-- Both levels of pairs are hashed alike, and nothing is refused.
abbrev pub alike : PlainNode → HashPair
alike node = record { bottom = λ left right. Ok (node left right); upper = λ left right. Ok (node left right) }

-- whether a tree has so many digests: one of n leaves has 2 n - 1
abbrev pub is_tree_length : ℕ → Bool
is_tree_length count = nat_lt 2 count && is_tree_size (count + 1)

-- how many leaves stand in memory of so many digests: n of 2 n - 1
abbrev pub leaf_count : ℕ → ℕ
leaf_count count = (count + 1) / 2

-- the leaf digests in memory, which stand last
abbrev pub kept_leaves : List Digest → List Digest
kept_leaves memory = drop (length memory / 2) memory

-- The digest at a place is the hash of the two below it, which stand at twice the place plus one and plus two.
abbrev pub IsHashed : PlainNode → List Digest → ℕ → Type 0
IsHashed node memory i = get_or memory i [] ≡ node (get_or memory (2 * i + 1) []) (get_or memory (2 * i + 2) [])

-- Memory holds the tree above these leaf digests: they stand last, and each digest before them is the hash of the two
-- below it.
pub record KeepsTree (node : PlainNode) (memory leaves : List Digest) : Type 0 where
  pub size : IsTreeSize (length leaves)
  pub count : length memory + 1 ≡ 2 * length leaves
  pub last : kept_leaves memory ≡ leaves
  pub hashed : (i : ℕ) → i < length memory / 2 → IsHashed node memory i

-- ---- what is written

-- So many digests from a place on are hashed from those below them; all others are as before.
pub record Rehashes (node : PlainNode) (first count : ℕ) (old new : List Digest) : Type 0 where
  pub long : length new ≡ length old
  pub hashed : (i : ℕ) → first ≤ i → i < first + count → IsHashed node new i
  pub others : (i : ℕ) → (i < first) ⊎ (first + count ≤ i) → get_or new i [] ≡ get_or old i []

-- A place is another one, or stands above it: counted from one, the place above is the half.
abbrev pub IsOnWay : ℕ → ℕ → Type 0
IsOnWay from i = (k : ℕ) × (i + 1 ≡ (from + 1) / 2 ^ k)

-- The leaf digest at an index is changed, those above it are hashed from the ones below them, and all others are as
-- before.
pub record ChangesLeaf (node : PlainNode) (old new : List Digest) (index : ℕ) (digest : Digest) : Type 0 where
  pub long : length new ≡ length old
  pub leaf : get_or new (length old / 2 + index) [] ≡ digest
  pub way : (i : ℕ) → i < length old / 2 → IsOnWay (length old / 2 + index) i → IsHashed node new i
  pub others : (i : ℕ) → (IsOnWay (length old / 2 + index) i → ⊥) → get_or new i [] ≡ get_or old i []

-- A place is on the way from the leaf of one of some indexes: first is the place of the first leaf.
abbrev pub IsOnWays : ℕ → List ℕ → ℕ → Type 0
IsOnWays first indexes i = (j : ℕ) × (j < length indexes) × IsOnWay (first + get_or indexes j 0) i

-- the place so many levels above the leaf of an index, or its own: counted from one, the first leaf stands at the count
-- of leaves, and the place above another is its half
abbrev pub place_above : ℕ → ℕ → ℕ → ℕ
place_above count level index = (leaf_count count + index) / 2 ^ level - 1

-- The digests on one level above the leaves of some indexes are hashed from the ones below them; all others are as
-- before.
pub record LevelHashed (node : PlainNode) (old new : List Digest) (level : ℕ) (indexes : List ℕ) : Type 0 where
  pub long : length new ≡ length old
  pub hashed : (j : ℕ) → j < length indexes → IsHashed node new (place_above (length old) level (get_or indexes j 0))
  pub others : (i : ℕ)
      → ((j : ℕ) → j < length indexes → i ≡ place_above (length old) level (get_or indexes j 0) → ⊥)
      → get_or new i [] ≡ get_or old i []

-- Some places have two places below them in memory of so many digests.
abbrev pub AreInside : ℕ → List ℕ → Type 0
AreInside count places = (i : ℕ) → i < length places → 2 * get_or places i 0 + 2 < count

-- None of the places stands below another.
abbrev pub NoneIsBelow : List ℕ → Type 0
NoneIsBelow places = (i j : ℕ) → i < length places → j < length places
    → (get_or places i 0 ≢ 2 * get_or places j 0 + 1) × (get_or places i 0 ≢ 2 * get_or places j 0 + 2)

-- The digests at some places are hashed from those below them, which are as before, as are all others.
pub record PlacesHashed (node : PlainNode) (old new : List Digest) (places : List ℕ) : Type 0 where
  pub long : length new ≡ length old
  pub hashed : (j : ℕ) → j < length places → IsHashed node new (get_or places j 0)
  pub others : (i : ℕ) → ((j : ℕ) → j < length places → i ≡ get_or places j 0 → ⊥) → get_or new i [] ≡ get_or old i []

-- The digests above the leaves of some indexes are hashed from the ones below them; all others are as before.
pub record RehashesAbove (node : PlainNode) (old new : List Digest) (indexes : List ℕ) : Type 0 where
  pub long : length new ≡ length old
  pub leaves : kept_leaves new ≡ kept_leaves old
  pub ways : (i : ℕ) → i < length old / 2 → IsOnWays (length old / 2) indexes i → IsHashed node new i
  pub others : (i : ℕ) → i < length old / 2 → (IsOnWays (length old / 2) indexes i → ⊥)
      → get_or new i [] ≡ get_or old i []

-- The leaf digests at some indexes are changed, one after the other, those above them are hashed from the ones below
-- them, and all others are as before.
pub record ChangesLeaves (node : PlainNode) (old new : List Digest) (indexes : List ℕ) (digests : List Digest)
    : Type 0 where
  pub long : length new ≡ length old
  pub leaves : kept_leaves new ≡ puts (kept_leaves old) (zip indexes digests)
  pub ways : (i : ℕ) → i < length old / 2 → IsOnWays (length old / 2) indexes i → IsHashed node new i
  pub others : (i : ℕ) → i < length old / 2 → (IsOnWays (length old / 2) indexes i → ⊥)
      → get_or new i [] ≡ get_or old i []

-- ---- paths

-- the digest beside the way of an index, so many levels above the leaves: counted from one, the first leaf stands at
-- the count of leaves, the place above another is its half, and the one beside it differs in bit 0
abbrev pub kept_beside : List Digest → ℕ → ℕ → Digest
kept_beside memory index level =
    get_or memory (neighbour ((leaf_count (length memory) + index) / 2 ^ level) - 1) []

-- those so many levels above the leaves and below, but that of the leaves, from above down
abbrev pub kept_above : List Digest → ℕ → ℕ → List Digest
kept_above memory index zero = []
kept_above memory index (suc level) = kept_beside memory index (suc level) ∷ kept_above memory index level

-- the digests of the path of an index, but that of the leaves, from above down
abbrev pub digests_above : List Digest → ℕ → List Digest
digests_above memory index = kept_above memory index (log2 (leaf_count (length memory)) - 1)

-- the path of an index, as it stands in memory
abbrev pub kept_way : List Digest → ℕ → Way
kept_way memory index =
    record { sibling = kept_beside memory index 0; above = digests_above memory index; index = index }

-- the multi-proof of some indexes, as it stands in memory: that of their paths, each once, rising
abbrev pub kept_multi_way : List Digest → List ℕ → MultiWay
kept_multi_way memory indexes = multi_path_of (map (kept_way memory) (rising_set indexes))
