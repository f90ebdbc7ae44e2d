-- Proofs of what a map in memory has at many keys: the bytes of a tree that hides what they do not need.
use Rattle.std.specs.Prelude.{◌≡◌, ◌<◌, ◌≤◌, ◌+◌, ℕ, List, [], ◌++◌, length, get_or, take, true, false, Ok, ◌≢◌, Option, MatchOption}
use Rattle.ark_base.specs.Outcome.{Outcome}
use Rattle.merkle_map.specs.Bytes.{IsOf32, spelled, tree_of_bytes}
use Rattle.merkle_map.specs.Changes.{known_at}
use Rattle.merkle_map.specs.Kept.{IsTreeOf}
use Rattle.merkle_map.specs.Map.{Digest, Entry, Key, MapHashes, bit_of, root_of_map, value_at}
use Rattle.merkle_map.specs.Order.{IsKeyBelow}
use Rattle.merkle_map.specs.Pruned.{pruned}
use Rattle.merkle_map.specs.Tree.{Shape, Shows, shape_digest, way}
use Rattle.kept_map.specs.Digests.{IsDigestAt}
use Rattle.kept_map.specs.KeptMap.{LaidAt}

-- No key is below the one before it.
abbrev pub IsRising : List Key → Type 0
IsRising keys = (i : ℕ) → i + 1 < length keys → ¬ IsKeyBelow (get_or keys (i + 1) []) (get_or keys i [])

-- The bytes are those of the tree that hides what stands beside the ways of the keys in the map's own tree.
pub record IsTreeFor (h : MapHashes) (keys : List Key) (xs : List Entry) (bytes : List ℕ) : Type 0 where
  pub tree : Shape
  pub is : IsTreeOf xs tree
  pub shown : Shape
  pub made : pruned h false false 0 keys tree ≡ Ok shown
  pub written : bytes ≡ spelled shown

-- Whoever reads the bytes has a tree with the map's root, that shows the map, and what it has at each key that is asked
-- for.
pub record IsShownAt (h : MapHashes) (is_asked : Key → Type 0) (xs : List Entry) (bytes : List ℕ) : Type 0 where
  pub tree : Shape
  pub read : tree_of_bytes bytes ≡ Ok tree
  pub root : shape_digest h tree ≡ root_of_map h xs
  pub known : (key : Key) → is_asked key → known_at 0 key tree ≡ Ok (value_at key xs)
  pub shows : Shows h 0 tree xs

-- ---- on the way

-- The keys rise, and begin with the same bits, so many.
pub record AreSorted (level : ℕ) (keys : List Key) : Type 0 where
  pub rising : IsRising keys
  pub alike : (i j : ℕ) → i < length keys → j < length keys
      → way level (get_or keys i []) ≡ way level (get_or keys j [])

-- The first keys, so many, have 0 at a bit, and those behind them have 1.
pub record IsParted (level : ℕ) (keys : List Key) (zeros : ℕ) : Type 0 where
  pub within : zeros ≤ length keys
  pub low : (i : ℕ) → i < zeros → bit_of level (get_or keys i []) ≡ false
  pub high : (i : ℕ) → zeros ≤ i → i < length keys → bit_of level (get_or keys i []) ≡ true

-- The digest hides what lies at the number; or the fork there is shown, since it is on a key's way or has the digest of
-- nothing.
abbrev pub IsHiddenBy : MapHashes → List (List ℕ) → List (List ℕ) → ℕ → List Key → Option Digest → Type 0
IsHiddenBy h entries forks number keys found = MatchOption found
    (keys ≡ [] → (digest : Digest) × IsDigestAt h entries forks number digest × (digest ≡ h.nothing))
    (λ digest. (keys ≡ []) × IsDigestAt h entries forks number digest × (digest ≢ h.nothing))

-- The bytes of the tree of an outcome stand behind others.
pub record IsWritten (made : Outcome Shape) (old new : List ℕ) : Type 0 where
  pub shown : Shape
  pub is : made ≡ Ok shown
  pub sized : IsOf32 shown
  pub bytes : new ≡ old ++ spelled shown

-- They are those of what is made of each tree that lies at the number, over whichever of the entries.
abbrev pub IsWrittenAt : MapHashes → List (List ℕ) → List (List ℕ) → ℕ → (Shape → Outcome Shape) → List ℕ
    → List ℕ → Type 0
IsWrittenAt h entries forks number made old new = (first count : ℕ) (tree : Shape)
    → LaidAt h (take first entries) forks count number tree → IsWritten (made tree) old new
