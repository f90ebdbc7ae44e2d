-- Paths that are kept up to date while leaves are appended.
use Rattle.std.specs.Prelude.{◌≡◌, ℕ, ◌+◌, ◌*◌, ◌/◌, ◌^◌, ◌<◌, ◌≤◌, List, [], ◌∷◌, length, get_or, reverse, Ok, Bool}
use Rattle.ark_base.specs.Outcome.{Outcome, ◌>>=◌}
use Rattle.ark_paths.specs.Index.{neighbour}
use Rattle.ark_paths.specs.Pair.{Digest, digest_eq}
use Rattle.ark_paths.specs.Path.{Way}
use Rattle.incremental_trees.specs.Nodes.{LevelHash, node_at, rising_root}

-- the nodes that a leaf completed, from its own level up, and its index
pub record CompletedValue : Type 0 where
  pub index : ℕ
  pub nodes : List Digest

-- These are all nodes that the last of these leaves completes.
pub record AreCompleted (hash : LevelHash) (empty : Digest) (leaves : List Digest) (completed : CompletedValue) : Type 0
  where
    pub last : length leaves ≡ completed.index + 1
    pub at : (level : ℕ) → level < length completed.nodes
        → node_at hash empty leaves level (completed.index / 2 ^ level) ≡ Ok (get_or completed.nodes level [])
    pub all : (level place : ℕ) → (place + 1) * 2 ^ level ≡ length leaves → level < length completed.nodes

-- a kept path: its leaf's index, and a node of each level, the lowest first
pub record KeptPathValue : Type 0 where
  pub index : ℕ
  pub nodes : List Digest

-- The node beside the way of an index on a level, if it is complete, is the one at its level of a list.
abbrev pub HasBeside : LevelHash → Digest → List Digest → ℕ → ℕ → List Digest → Type 0
HasBeside hash empty leaves index level nodes =
    (neighbour (index / 2 ^ level) + 1) * 2 ^ level ≤ length leaves
    → node_at hash empty leaves level (neighbour (index / 2 ^ level)) ≡ Ok (get_or nodes level [])

-- The path is that of a leaf: of the nodes beside its way it has those that are complete.
pub record IsKeptPath (hash : LevelHash) (empty : Digest) (leaves : List Digest) (depth : ℕ) (path : KeptPathValue) :
    Type 0 where
  pub inside : path.index < length leaves
  pub long : length path.nodes ≡ depth
  pub complete : (level : ℕ) → level < depth → HasBeside hash empty leaves path.index level path.nodes

-- whether nodes beside a way, the lowest first, make a root of a leaf, or the first refusal
abbrev pub rising_verdict : LevelHash → ℕ → List Digest → Digest → Digest → Outcome Bool
rising_verdict hash index nodes leaf given = do
  top ← rising_root hash 0 index nodes leaf
  Ok (digest_eq top given)

-- the path that has these nodes, the lowest first, of which there is one at least
abbrev pub way_through : ℕ → List Digest → Way
way_through index [] = record { sibling = []; above = []; index = index }
way_through index (lowest ∷ rest) = record { sibling = lowest; above = reverse rest; index = index }
