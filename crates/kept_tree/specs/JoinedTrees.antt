-- Trees of equal size that are joined to one. They lie one behind the other, each in level order.
use Rattle.std.specs.Prelude.{◌≡◌, ◌==◌, ◌⊎◌, ℕ, ◌+◌, ◌-◌, ◌*◌, ◌/◌, ◌%◌, ◌<◌, ◌^◌, List, [], length, take, drop, get_or, nat_lt, Bool, ◌&&◌}
use Rattle.ark_paths.specs.Pair.{Digest}
use Rattle.kept_tree.specs.KeptTree.{IsHashed, KeepsTree, PlainNode, is_tree_length, leaf_count}

-- whether so many digests are those of so many trees of equal size, which join to one of as many digests as the last
-- number says: k trees of n leaves have k (2 n - 1) digests, and the tree of all their leaves has 2 k n - 1
abbrev pub is_joined_length : ℕ → ℕ → ℕ → Bool
is_joined_length digests count tree = nat_lt 0 count && digests % count == 0 && is_tree_length (digests / count)
    && is_tree_length tree && digests + count == tree + 1

-- one of the shares of a list, each of so many digests
abbrev pub share_of : ℕ → List Digest → ℕ → List Digest
share_of size digests n = take size (drop (n * size) digests)

-- So many parts of memory, of equal length, hold the trees above as many shares of a list of leaf digests.
pub record KeepsShares (node : PlainNode) (parts : List Digest) (count : ℕ) (leaves : List Digest) : Type 0 where
  pub whole : length leaves ≡ count * leaf_count (length parts / count)
  pub each : (n : ℕ) → n < count → KeepsTree node (share_of (length parts / count) parts n)
      (share_of (leaf_count (length parts / count)) leaves n)

-- the place of a digest of a part, on a level where each part has so many: in a tree in which the same levels of so
-- many parts stand one behind the other
abbrev pub place_joined : ℕ → ℕ → ℕ → ℕ → ℕ
place_joined count width n at = (count + n) * width + at - 1

-- the place of that digest where the parts lie one behind the other, of so many digests each
abbrev pub place_apart : ℕ → ℕ → ℕ → ℕ → ℕ
place_apart size width n at = n * size + (width + at - 1)

-- A level of the first parts, on which each has so many digests, is copied to the joined tree. All else is as before.
pub record CopiesLevel (count size width before : ℕ) (parts old new : List Digest) : Type 0 where
  pub long : length new ≡ length old
  pub copied : (n at : ℕ) → n < before → at < width
      → get_or new (place_joined count width n at) [] ≡ get_or parts (place_apart size width n at) []
  pub others : (i : ℕ) → (i + 1 < count * width) ⊎ ((count + before) * width < i + 2)
      → get_or new i [] ≡ get_or old i []

-- The levels on which each part has fewer digests than so many are copied to the joined tree.
pub record CopiesLevels (count size bound : ℕ) (parts old new : List Digest) : Type 0 where
  pub long : length new ≡ length old
  pub copied : (level n at : ℕ) → 2 ^ level < bound → n < count → at < 2 ^ level
      → get_or new (place_joined count (2 ^ level) n at) [] ≡ get_or parts (place_apart size (2 ^ level) n at) []

-- All levels of each part are copied to the joined tree, and each digest above the parts is hashed from those below it.
pub record JoinsTrees (node : PlainNode) (count : ℕ) (parts old new : List Digest) : Type 0 where
  pub levels : CopiesLevels count (length parts / count) (leaf_count (length parts / count) + 1) parts old new
  pub hashed : (i : ℕ) → i + 1 < count → IsHashed node new i
