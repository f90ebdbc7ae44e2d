-- Trees that are copied from one memory to another.
use Rattle.std.specs.Prelude.{◌≡◌, ◌≤◌, ◌+◌, ℕ, Bool, List, length, take}
use Rattle.merkle_map.specs.Map.{MapHashes}
use Rattle.merkle_map.specs.Tree.{Shape, StandsAt}
use Rattle.merkle_map.specs.Whole.{entries_of}
use Rattle.kept_map.specs.Changed.{IsOlder}
use Rattle.kept_map.specs.KeptMap.{LaidAt, fork_count}
use Rattle.kept_map.specs.declared.head.Head.{Head}

-- A tree lies at a number, and stands somewhere so many levels below the top.
pub record LiesBelow (h : MapHashes) (entries forks : List (List ℕ)) (number level : ℕ) (tree : Shape) : Type 0 where
  pub bound : ℕ
  pub inside : bound ≤ length forks
  pub lies : LaidAt h entries forks bound number tree
  pub bits : List Bool
  pub long : length bits ≡ level
  pub stands : StandsAt bits tree

-- A head names no more entries and forks than there are.
abbrev pub FitsMemory : List (List ℕ) → List (List ℕ) → Head → Type 0
FitsMemory entries forks head = (head.entries ≤ length entries) × (head.forks ≤ length forks)

-- What was written lies behind the entries and the forks of a head, and another names it too.
pub record IsBehind (older newer : Head) (entries entries_now forks forks_now : List (List ℕ)) : Type 0 where
  pub entries_stay : take older.entries entries_now ≡ take older.entries entries
  pub forks_stay : take older.forks forks_now ≡ take older.forks forks
  pub grows : IsOlder older newer

-- A tree lies at a number under a head that names, beside those of an older one, its entries and forks and no more.
pub record IsCopied (h : MapHashes) (entries forks : List (List ℕ)) (older head : Head) (number : ℕ) (tree : Shape)
    : Type 0 where
  pub lies : LaidAt h (take head.entries entries) forks head.forks number tree
  pub entry_count : older.entries + length (entries_of tree) ≡ head.entries
  pub forks_count : older.forks + fork_count tree ≡ head.forks

-- There is room for the entries and the forks of a tree.
abbrev pub HasRoomFor : List (List ℕ) → List (List ℕ) → Head → Shape → Type 0
HasRoomFor entries forks head tree = (head.entries + length (entries_of tree) ≤ length entries)
    × (head.forks + fork_count tree ≤ length forks)
