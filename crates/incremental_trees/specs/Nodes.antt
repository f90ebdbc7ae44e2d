-- Trees of a fixed depth whose last leaves are empty: Zcash's note commitment trees (protocol specification, section
-- 4.9, "Merkle Path Validity"), the tree of Ethereum's deposit contract (consensus specifications, phase 0).
use Rattle.std.specs.Prelude.{ℕ, zero, suc, ◌+◌, ◌-◌, ◌*◌, ◌/◌, ◌^◌, List, [], ◌∷◌, ◌++◌, length, replicate, get_or, Ok}
use Rattle.ark_base.specs.Outcome.{Outcome, ◌>>=◌}
use Rattle.ark_paths.specs.Index.{bit_at, neighbour}
use Rattle.ark_paths.specs.Pair.{Digest, HashPair, hash_in_order}

-- what the hash of two nodes of a level returns; the leaves are level 0
abbrev pub LevelHash : Type 0
LevelHash = ℕ → Digest → Digest → Outcome Digest

-- The node at a place of a level, counted from the left: on level 0 a leaf, or the empty one behind all leaves; above,
-- the hash of the two nodes below it.
abbrev pub node_at : LevelHash → Digest → List Digest → ℕ → ℕ → Outcome Digest
node_at hash empty leaves zero place = Ok (get_or leaves place empty)
node_at hash empty leaves (suc level) place = do
  left ← node_at hash empty leaves level (2 * place)
  right ← node_at hash empty leaves level (2 * place + 1)
  hash level left right

-- the root of the tree of a depth: the node at its top
abbrev pub depth_root : LevelHash → ℕ → Digest → List Digest → Outcome Digest
depth_root hash depth empty leaves = node_at hash empty leaves depth 0

-- all leaves of the tree of a depth: the given ones, and empty ones behind them
abbrev pub padded_leaves : ℕ → Digest → List Digest → List Digest
padded_leaves depth empty leaves = leaves ++ replicate (2 ^ depth - length leaves) empty

-- a tree's two hashes of pairs: of two leaf digests on level 0, of two digests above them on all other levels
abbrev pub level_hash : HashPair → LevelHash
level_hash h zero = h.bottom
level_hash h (suc level) = h.upper

-- ---- paths

-- the nodes beside the way from a leaf up, the lowest first: as many as the depth says
abbrev pub nodes_beside : LevelHash → Digest → List Digest → ℕ → ℕ → Outcome (List Digest)
nodes_beside hash empty leaves zero index = Ok []
nodes_beside hash empty leaves (suc depth) index = do
  below ← nodes_beside hash empty leaves depth index
  node ← node_at hash empty leaves depth (neighbour (index / 2 ^ depth))
  Ok (below ++ (node ∷ []))

-- What nodes beside a way, the lowest first, make of the node at its foot, whose level and place are given.
abbrev pub rising_root : LevelHash → ℕ → ℕ → List Digest → Digest → Outcome Digest
rising_root hash level place [] node = Ok node
rising_root hash level place (beside ∷ rest) node = do
  above ← hash_in_order (hash level) (bit_at place 0) node beside
  rising_root hash (suc level) (place / 2) rest above
