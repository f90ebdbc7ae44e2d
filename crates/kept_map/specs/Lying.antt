-- Trees that lie in memory, while a call goes down a key's way.
use Rattle.std.specs.Prelude.{◌≡◌, ◌≤◌, ◌+◌, ℕ, List, Ok}
use Rattle.ark_base.specs.Outcome.{Outcome}
use Rattle.merkle_map.specs.Map.{Key, MapHashes}
use Rattle.merkle_map.specs.Tree.{Shape, StandsAt, way}
use Rattle.kept_map.specs.KeptMap.{LaidAt, fork_count}

-- A tree lies at a number among the first forks, so many, and stands where the first bits of a key lead, so many.
pub record LiesOn (h : MapHashes) (entries forks : List (List ℕ)) (count number level : ℕ) (key : Key) (tree : Shape)
    : Type 0 where
  pub bound : ℕ
  pub inside : bound ≤ count
  pub lies : LaidAt h entries forks bound number tree
  pub stands : StandsAt (way level key) tree

-- The tree of an outcome lies at a number among the first forks, so many. It has no more forks than so many, and those
-- that were written for it.
pub record LiesMade (h : MapHashes) (entries forks : List (List ℕ)) (count number : ℕ) (made : Outcome Shape)
    (before had : ℕ) : Type 0 where
  pub tree : Shape
  pub is : made ≡ Ok tree
  pub lies : LaidAt h entries forks count number tree
  pub written : fork_count tree + before ≤ had + count
