-- The first and the next entry of what lies at a number.
use Rattle.std.specs.Prelude.{ℕ, List, Bool, take, Option, MatchOption}
use Rattle.merkle_map.specs.Map.{Key, MapHashes}
use Rattle.merkle_map.specs.Order.{HasNoneFrom, IsFirstEntry, IsNextEntry}
use Rattle.merkle_map.specs.Tree.{Shape, StandsAt, way}
use Rattle.merkle_map.specs.Whole.{entries_of}
use Rattle.kept_map.specs.KeptMap.{LaidAt, entry_in}

-- The entry at a place is the first one of each tree that lies at the number, over whichever of the entries.
abbrev pub IsFirstAt : List (List ℕ) → List (List ℕ) → ℕ → ℕ → Type 0
IsFirstAt entries forks number place = (h : MapHashes) (first count : ℕ) (tree : Shape) (bits : List Bool)
    → LaidAt h (take first entries) forks count number tree → StandsAt bits tree
    → IsFirstEntry (entries_of tree) (entry_in entries place)

-- What was found is the place of the next entry of each tree that lies at the number, some levels below the root on the
-- key's way, or there is none.
abbrev pub IsNextAt : List (List ℕ) → List (List ℕ) → ℕ → ℕ → Key → Option ℕ → Type 0
IsNextAt entries forks number level from found = (h : MapHashes) (first count : ℕ) (tree : Shape)
    → LaidAt h (take first entries) forks count number tree → StandsAt (way level from) tree
    → MatchOption found (HasNoneFrom from (entries_of tree))
    (λ place. IsNextEntry from (entries_of tree) (entry_in entries place))
