-- Maps that are looked for in memory of strangers.
use Rattle.std.specs.Prelude.{◌≤◌, ◌+◌, ℕ, zero, suc, Bool, false, List, [], ◌∷◌, get_or}
use Rattle.merkle_map.specs.Map.{MapHashes}
use Rattle.merkle_map.specs.Tree.{IsWhole, Shape, StandsAt}
use Rattle.kept_map.specs.KeptMap.{LaidAt, fork_count}

-- the first bits of a path, the last of them first
abbrev pub path_bits : ℕ → List Bool → List Bool
path_bits zero path = []
path_bits (suc level) path = get_or path level false ∷ path_bits level path

-- A tree lies at a number among the first forks, so many. It stands where the bits lead, and its forks were taken off
-- those that might be hashed.
pub record IsTreeAt (h : MapHashes) (entries forks : List (List ℕ)) (count number : ℕ) (bits : List Bool)
    (before after : ℕ) : Type 0 where
  pub tree : Shape
  pub lies : LaidAt h entries forks count number tree
  pub stands : StandsAt bits tree
  pub whole : IsWhole tree
  pub counted : fork_count tree + after ≤ before
