-- The nodes of a tree with their digests, as a store outside keeps them.
use Rattle.std.specs.Prelude.{ℕ, List, [], ◌++◌, Ok}
use Rattle.ark_base.specs.Outcome.{Outcome, ◌>>=◌}
use Rattle.merkle_map.specs.Map.{Digest, Node, Leaf, Pair, MapHashes, digest_of}
use Rattle.merkle_map.specs.Sha256.{node_bytes}
use Rattle.merkle_map.specs.Tree.{Shape, Empty, One, Fork, Hidden}

-- a node's row: its digest, and the 65 bytes of the node
abbrev pub row : Digest → Node → List ℕ
row digest node = digest ++ node_bytes node

-- the digest of a node, and its row behind others
abbrev pub row_behind : MapHashes → List ℕ → Node → Outcome (Digest × List ℕ)
row_behind h rows node = digest_of h node >>= λ digest. Ok (digest, rows ++ row digest node)

-- The digest of a tree, or the lowest and then leftmost error; and a row for each entry and each fork that the tree
-- does not hide: the left side's, the right side's, the fork's.
abbrev pub rows_of : MapHashes → Shape → Outcome (Digest × List ℕ)
rows_of h Empty = Ok (h.nothing, [])
rows_of h (One entry) = row_behind h [] (Leaf entry)
rows_of h (Fork left right) = do
  l ← rows_of h left
  r ← rows_of h right
  row_behind h (l.1 ++ r.1) (Pair l.0 r.0)
rows_of h (Hidden digest) = Ok (digest, [])

-- rows behind others
abbrev pub rows_behind : List ℕ → Outcome (Digest × List ℕ) → Outcome (Digest × List ℕ)
rows_behind before made = made >>= λ m. Ok (m.0, before ++ m.1)
