-- Conflicts in trees of a fixed depth over the hash of two nodes and their level, as Sapling's note commitment tree is.
use Rattle.std.specs.Prelude.{◌≡◌, ℕ, ℤ, ◌*◌, ◌/◌, ◌^◌, ◌<◌, ◌≤◌, true, List, [], length, map, take, get_or, Ok}
use Rattle.ark_base.specs.Outcome.{Outcome, ◌>>=◌}
use Rattle.ark_groups.specs.Group.{Group}
use Rattle.ark_pedersen.specs.declared.window.Window.{Ghosts as Windows}
use Rattle.ark_bowe_hopwood.specs.Binding.{Children, bit_coefficients, bits_in}
use Rattle.ark_bowe_hopwood.specs.Nodes.{leveled_hash}
use Rattle.ark_paths.specs.Bind.{couple}
use Rattle.ark_paths.specs.Index.{bit_at}
use Rattle.ark_paths.specs.Pair.{Digest}
use Rattle.incremental_trees.specs.KeptPaths.{rising_verdict}
use Rattle.incremental_trees.specs.Nodes.{LevelHash, rising_root}
use Rattle.ark_crypto_primitives.specs.TreeRelations.{AreBindingSegments, IsSomeSignedRelation}

-- a leaf, the nodes beside its way, the lowest first, and its index
pub record ShownNode (F : Type 0) : Type 0 where
  pub leaf : F
  pub beside : List F
  pub index : ℕ

-- its nodes make the root, as `verify_rising` tests
abbrev pub IsNodeShown : {F : Type 0} → (F → Digest) → LevelHash → Digest → ShownNode F → Type 0
IsNodeShown numbers hash root shown =
    rising_verdict hash shown.index (map numbers shown.beside) (numbers shown.leaf) root ≡ Ok true

-- Two leaves differ, and stand at one index of trees of one depth.
pub record AreNodesInConflict {F : Type 0} (numbers : F → Digest) (a b : ShownNode F) : Type 0 where
  pub differ : numbers a.leaf ≡ numbers b.leaf → ⊥
  pub index : a.index ≡ b.index
  pub depth : length a.beside ≡ length b.beside

-- the node on a leaf's way at a level, and the one beside it, in their order
abbrev pub nodes_at : {F : Type 0} → (F → Digest) → LevelHash → ShownNode F → ℕ → Outcome (Digest × Digest)
nodes_at numbers hash shown level = do
  node ← rising_root hash 0 shown.index (take level (map numbers shown.beside)) (numbers shown.leaf)
  Ok (couple (bit_at (shown.index / 2 ^ level) 0) node (get_or (map numbers shown.beside) level []))

-- two nodes and their level, by the numbers of the nodes
abbrev pub children_of : ℕ → Digest × Digest → Children
children_of level nodes = record { level = level; left = get_or nodes.0 0 0; right = get_or nodes.1 0 0 }

-- the coefficients that two couples of nodes of a level give
abbrev pub node_coefficients : {W : Type 0} → Windows W → ℕ → Digest × Digest → Digest × Digest → List ℤ
node_coefficients windows level left right =
    bit_coefficients windows (bits_in (children_of level left)) (bits_in (children_of level right))

-- The couples of nodes on two ways at a level give a relation among the elements.
pub record NodesGiveRelation {F G W : Type 0} (numbers : F → Digest) (hash : LevelHash) (g : Group G) (order : ℕ)
    (windows : Windows W) (elements : List G) (a b : ShownNode F) (level : ℕ) : Type 0 where
  pub in_range : level < length a.beside
  pub left : Digest × Digest
  pub left_is : nodes_at numbers hash a level ≡ Ok left
  pub right : Digest × Digest
  pub right_is : nodes_at numbers hash b level ≡ Ok right
  pub relation : IsSomeSignedRelation g order elements (node_coefficients windows level left right)

-- Two leaves in conflict under one root give a relation at a level, where the segments have room for both nodes.
abbrev pub NodeConflictsGiveRelations : {F G W : Type 0} → (F → Digest) → Group G → ℕ → (G → ℕ) → Windows W → Type 0
NodeConflictsGiveRelations {F} {G} numbers g order coordinate windows =
    (lists : List (List G)) (elements : List G) (root : Digest) (a b : ShownNode F)
    → AreBindingSegments g order windows elements lists → 516 ≤ 3 * (windows.WINDOW_SIZE * windows.NUM_WINDOWS)
    → AreNodesInConflict numbers a b → IsNodeShown numbers (leveled_hash g coordinate windows lists) root a
    → IsNodeShown numbers (leveled_hash g coordinate windows lists) root b
    → (level : ℕ)
    × NodesGiveRelation numbers (leveled_hash g coordinate windows lists) g order windows elements a b level
