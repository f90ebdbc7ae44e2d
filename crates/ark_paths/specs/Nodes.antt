-- The check of a multi-proof a level at a time. Paths that meet in one node go on together, and the first of them
-- stands for all. Paths are named by their places in the multi-proof; level 0 has the leaf digests, and a level's row
-- is its number less one.
use Rattle.std.specs.Prelude.{◌≡◌, ◌⊎◌, ℕ, suc, ◌+◌, ◌-◌, ◌/◌, ◌^◌, ◌<◌, ◌≤◌, List, [], ◌∷◌, ◌++◌, length, take, drop, get_or, Ok}
use Rattle.ark_paths.specs.Bind.{couple}
use Rattle.ark_paths.specs.Index.{bit_at}
use Rattle.ark_paths.specs.Pair.{Digest, HashPair}
use Rattle.ark_paths.specs.Path.{Way, climb, path_root}

-- the digests above the sibling on each path, after those of a path before
abbrev pub paths_after : List Digest → List ℕ → List (List Digest) → List (List Digest)
paths_after before [] suffixes = []
paths_after before (prefix ∷ prefixes) [] = []
paths_after before (prefix ∷ prefixes) (suffix ∷ suffixes) =
    (take prefix before ++ suffix) ∷ paths_after (take prefix before ++ suffix) prefixes suffixes

-- the first places have parts that make paths of one length
pub record HasParts (prefixes : List ℕ) (suffixes : List (List Digest)) (count len : ℕ) : Type 0 where
  pub prefixes_long : count ≤ length prefixes
  pub suffixes_long : count ≤ length suffixes
  pub fit : (i : ℕ) → i < count → get_or prefixes i 0 + length (get_or suffixes i []) ≡ len

-- These are the digests above the sibling on the paths of the first places: each path ends with its suffix, and takes
-- so many first digests from the path before.
pub record ArePaths (above : List (List Digest)) (prefixes : List ℕ) (suffixes : List (List Digest)) (count len : ℕ)
    : Type 0 where
  pub long : (i : ℕ) → i < count → length (get_or above i []) ≡ len
  pub ends : (i : ℕ) → i < count → drop (get_or prefixes i 0) (get_or above i []) ≡ get_or suffixes i []
  pub begins : (i n : ℕ) → suc i < count → n ≤ get_or prefixes (suc i) 0
      → take n (get_or above i []) ≡ take n (get_or above (suc i) [])

-- all of these are among the first places
abbrev pub AreAmongFirst : ℕ → List ℕ → Type 0
AreAmongFirst count firsts = (g : ℕ) → g < length firsts → get_or firsts g 0 < count

-- Each path but the first shares with the one before, of the first ones through nodes, as many first digests as it
-- takes from the path before it in the proof, or as many as stand on the levels from this one up.
abbrev pub AreFirsts : List (List Digest) → List ℕ → ℕ → List ℕ → Type 0
AreFirsts above prefixes most firsts = (g n : ℕ) → suc g < length firsts → n ≤ most
    → n ≤ get_or prefixes (get_or firsts (suc g) 0) 0
    → take n (get_or above (get_or firsts g 0) []) ≡ take n (get_or above (get_or firsts (suc g) 0) [])

-- A digest stands so many digests below the root on a path: in its suffix, or where its prefix reaches so far, it is
-- the last of those that were found on the paths before.
abbrev pub IsFoundBeside : ℕ → List Digest → ℕ → List Digest → Digest → Type 0
IsFoundBeside prefix suffix depth before digest =
    ((prefix ≤ depth) × (depth - prefix < length suffix) × (digest ≡ get_or suffix (depth - prefix) []))
    ⊎ ((depth < prefix) × (0 < length before) × (digest ≡ get_or before (length before - 1) []))

-- the digests of some paths that stand so many digests below the root
abbrev pub AreBeside : List (List Digest) → ℕ → List ℕ → List Digest → Type 0
AreBeside above depth firsts beside = (g : ℕ) → g < length firsts
    → get_or beside g [] ≡ get_or (get_or above (get_or firsts g 0) []) depth []

-- The couple of a digest on a path's level with the one beside it is among those that were made, and stands there for a
-- path that has the same nodes and digests above.
pub record IsJoined (above : List (List Digest)) (indexes : List ℕ) (level most : ℕ) (firsts : List ℕ)
    (couples : List (Digest × Digest)) (path : ℕ) (own beside : Digest) : Type 0 where
  pub at : ℕ
  pub inside : at < length couples
  pub couple_is : get_or couples at ([], []) ≡ couple (bit_at (get_or indexes path 0) level) own beside
  pub number : get_or indexes path 0 / 2 ^ suc level ≡ get_or indexes (get_or firsts at 0) 0 / 2 ^ suc level
  pub digests : take most (get_or above path []) ≡ take most (get_or above (get_or firsts at 0) [])

-- all nodes, up to one, are joined so
abbrev pub AreJoined : List (List Digest) → List ℕ → ℕ → ℕ → List ℕ → List (Digest × Digest) → ℕ → List ℕ
    → List Digest → List Digest → Type 0
AreJoined above indexes level most firsts couples count paths own beside = (g : ℕ) → g < count
    → IsJoined above indexes level most firsts couples (get_or paths g 0) (get_or own g []) (get_or beside g [])

-- On each node's path the digest of its node in a row gives the root, over the digests further up.
abbrev pub AllClimb : HashPair → Digest → List (List Digest) → List ℕ → ℕ → ℕ → List ℕ → List Digest → Type 0
AllClimb h root above indexes row most firsts digests = (g : ℕ) → g < length firsts
    → climb h.upper (get_or indexes (get_or firsts g 0) 0 / 2 ^ row) (take most (get_or above (get_or firsts g 0) []))
    (get_or digests g []) ≡ Ok root

-- the path of a place, of these parts
abbrev pub listed_path : List (List Digest) → List Digest → List ℕ → ℕ → Way
listed_path above siblings indexes i =
    record { sibling = get_or siblings i []; above = get_or above i []; index = get_or indexes i 0 }

-- The leaf digests of the first places give the root, each on its path.
abbrev pub AllRoot : HashPair → Digest → List (List Digest) → List Digest → List ℕ → ℕ → List Digest → Type 0
AllRoot h root above siblings indexes count digests = (i : ℕ) → i < count
    → path_root h (listed_path above siblings indexes i) (get_or digests i []) ≡ Ok root
