-- Trees that hide nothing: stores.
use Rattle.std.specs.Prelude.{◌≡◌, List, [], ◌∷◌, ◌++◌, IfErr, OnOk}
use Rattle.ark_base.specs.Outcome.{Outcome, IsMemory}
use Rattle.merkle_map.specs.Map.{Entry, MapHashes, HaveSame, root_of_map}
use Rattle.merkle_map.specs.Tree.{Shape, Empty, One, Fork, Hidden, IsWhole, shape_digest}

-- the entries of a tree that hides nothing, by rising keys
abbrev pub entries_of : Shape → List Entry
entries_of Empty = []
entries_of (One entry) = entry ∷ []
entries_of (Fork left right) = entries_of left ++ entries_of right
entries_of (Hidden digest) = []

-- The tree is the store of this map.
pub record IsStoreOf (entries : List Entry) (tree : Shape) : Type 0 where
  pub whole : IsWhole tree
  pub same : HaveSame (entries_of tree) entries

-- A call on a store leaves the store of the changed map; its only error is `OutOfMemory`.
abbrev pub Stores : {A : Type 0} → (List Entry → List Entry) → Shape → Shape → Outcome A → Type 0
Stores change old new result = IsWhole old
    → OnOk result (IsStoreOf (change (entries_of old)) new) × IfErr result IsMemory

-- The digest of a store is the root of its entries.
abbrev pub IsRootOf : MapHashes → Shape → Type 0
IsRootOf h tree = IsWhole tree → root_of_map h (entries_of tree) ≡ shape_digest h tree
