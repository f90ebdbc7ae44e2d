-- Memory of a kept map that is changed.
use Rattle.std.specs.Prelude.{◌<◌, ◌≤◌, ◌+◌, ℕ, Bool, if◌then◌else◌, List, length}
use Rattle.ark_base.specs.Outcome.{Outcome}
use Rattle.merkle_map.specs.Changes.{rejoined}
use Rattle.merkle_map.specs.Map.{Digest, Entry, HaveSame, MapHashes}
use Rattle.merkle_map.specs.Tree.{Shape, Fork}
use Rattle.kept_map.specs.KeptMap.{KeepsMap, left_at, right_at}
use Rattle.kept_map.specs.declared.head.Head.{Head}

-- the number of what stands below a fork on a side: on the right, or on the left
abbrev pub side_of : Bool → List (List ℕ) → ℕ → ℕ
side_of is_right forks k = if is_right then right_at forks k else left_at forks k

-- the fork of a tree on that side, and of another beside it
abbrev pub fork_of : Bool → Shape → Shape → Shape
fork_of is_right own beside = if is_right then Fork beside own else Fork own beside

-- what is left of a tree on that side, which may have lost an entry, and of another beside it
abbrev pub rejoined_of : Bool → Digest → Shape → Shape → Outcome Shape
rejoined_of is_right nothing own beside = if is_right then rejoined nothing beside own else rejoined nothing own beside

-- There is room for 256 forks more.
abbrev pub HasForkRoom : List (List ℕ) → Head → Type 0
HasForkRoom forks head = head.forks + 256 ≤ length forks

-- There is room for an entry more and for 256 forks more.
abbrev pub HasPutRoom : List (List ℕ) → List (List ℕ) → Head → Type 0
HasPutRoom entries forks head = (head.entries < length entries) × HasForkRoom forks head

-- A head names no more entries and forks than another.
abbrev pub IsOlder : Head → Head → Type 0
IsOlder older newer = (older.entries ≤ newer.entries) × (older.forks ≤ newer.forks)

-- Memory keeps a map under a head that has the same at each key.
pub record KeepsSame (h : MapHashes) (entries forks : List (List ℕ)) (head : Head) (xs : List Entry) : Type 0 where
  pub own : List Entry
  pub same : HaveSame own xs
  pub keeps : KeepsMap h entries forks head own
