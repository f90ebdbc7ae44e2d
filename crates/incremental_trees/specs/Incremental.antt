-- What an incremental tree keeps: one node of each level, and the nodes of a tree without leaves.
use Rattle.std.specs.Prelude.{◌≡◌, ◌⊎◌, ℕ, ◌+◌, ◌-◌, ◌*◌, ◌/◌, ◌%◌, ◌^◌, ◌<◌, ◌≤◌, List, [], ◌∷◌, ◌++◌, length, get_or, Ok, Err}
use Rattle.ark_base.specs.declared.error.Error.{Error}
use Rattle.ark_base.specs.declared.error.Error.TheVariants.{OutOfMemory}
use Rattle.ark_paths.specs.Pair.{Digest}
use Rattle.incremental_trees.specs.Nodes.{LevelHash, node_at, depth_root}
use Rattle.incremental_trees.specs.declared.refusal.TreeRefusal.{TreeRefusal}
use Rattle.incremental_trees.specs.declared.refusal.TreeRefusal.TheVariants.{TooDeep, Full, Hash}

-- an incremental tree: its hasher, its depth, how many leaves it has, the empty leaf, and the nodes that it keeps, by
-- levels
pub record IncrementalValue (T : Type 0) : Type 0 where
  pub hasher : T
  pub depth : ℕ
  pub size : ℕ
  pub empty : Digest
  pub empties : List Digest
  pub filled : List Digest

-- These are the nodes of a tree without leaves, on each level up to the depth.
pub record AreEmpty (hash : LevelHash) (empty : Digest) (depth : ℕ) (empties : List Digest) : Type 0 where
  pub at : (level : ℕ) → level ≤ depth → node_at hash empty [] level 0 ≡ Ok (get_or empties level [])

-- the place of the last node of a level that is complete and stands left, for so many leaves
abbrev pub last_left : ℕ → ℕ → ℕ
last_left level size = 2 * ((size / 2 ^ level - 1) / 2)

-- These are the last nodes that are complete and stand left, on each level that has such a node.
pub record AreFilled (hash : LevelHash) (empty : Digest) (leaves : List Digest) (depth : ℕ) (filled : List Digest) :
    Type 0 where
  pub at : (level : ℕ) → level ≤ depth → 2 ^ level ≤ length leaves
      → node_at hash empty leaves level (last_left level (length leaves)) ≡ Ok (get_or filled level [])

-- The tree has these leaves, and keeps their nodes.
pub record HoldsLeaves {T : Type 0} (hash : LevelHash) (leaves : List Digest) (tree : IncrementalValue T) : Type 0
  where
    pub size_is : length leaves ≡ tree.size
    pub fits : length leaves ≤ 2 ^ tree.depth
    pub empties : AreEmpty hash tree.empty tree.depth tree.empties
    pub filled : AreFilled hash tree.empty leaves tree.depth tree.filled

-- A leaf behind so many completes nodes up to this level and none above: the node there stands left.
pub record CarriesTo (size level : ℕ) : Type 0 where
  pub complete : size + 1 ≡ (size / 2 ^ level + 1) * 2 ^ level
  pub left : size / 2 ^ level % 2 ≡ 0

-- ---- refusals

-- Why no tree of this depth is made: it is too deep, or the hash refuses a node of a tree without leaves.
abbrev pub RefusesEmptyTree : LevelHash → ℕ → Digest → TreeRefusal → Type 0
RefusesEmptyTree hash depth empty TooDeep = 63 < depth
RefusesEmptyTree hash depth empty Full = ⊥
RefusesEmptyTree hash depth empty (Hash error) =
    (depth ≤ 63) × ((error ≡ OutOfMemory) ⊎ (depth_root hash depth empty [] ≡ Err error))

-- The hash refuses with this error a node that the last of these leaves completes.
pub record RefusesComplete (hash : LevelHash) (empty : Digest) (leaves : List Digest) (error : Error) : Type 0 where
  pub level : ℕ
  pub place : ℕ
  pub complete : length leaves ≡ (place + 1) * 2 ^ level
  pub refused : node_at hash empty leaves level place ≡ Err error

-- Why a tree takes no leaf more: it is full, or the hash refuses a node that this leaf completes.
abbrev pub RefusesLeaf : {T : Type 0} → LevelHash → IncrementalValue T → Digest → TreeRefusal → Type 0
RefusesLeaf hash tree leaf TooDeep = ⊥
RefusesLeaf hash tree leaf Full = tree.size ≡ 2 ^ tree.depth
RefusesLeaf hash tree leaf (Hash error) =
    (tree.size < 2 ^ tree.depth)
    × ((error ≡ OutOfMemory) ⊎ ((leaves : List Digest) → HoldsLeaves hash leaves tree
    → RefusesComplete hash tree.empty (leaves ++ (leaf ∷ [])) error))
