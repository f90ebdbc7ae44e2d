-- Lists of digests that grow, and their roots and proofs (RFC 9162, section 2.1).
use Rattle.std.specs.Prelude.{ℕ, true, List, ◌++◌, length, map, take, Ok}
use Rattle.ark_base.specs.Outcome.{Outcome}
use Rattle.ark_paths.specs.Pair.{Digest, HashPair}
use Rattle.merkle_log.specs.Trees.{tree_hash, path, subproof}
use Rattle.merkle_log.specs.Walk.{joined}

-- what the hash of two digests returns
abbrev pub NodeHash : Type 0
NodeHash = Digest → Digest → Outcome Digest

-- one hash of pairs for the lowest pairs of a tree and for those above them
abbrev pub both_levels : NodeHash → HashPair
both_levels hash = record { bottom = hash; upper = hash }

-- MTH(D), where no digest has the hash `empty`; or the first error
abbrev pub merkle_tree_hash : NodeHash → Digest → List Digest → Outcome Digest
merkle_tree_hash hash empty digests = tree_hash (joined hash) (Ok empty) (length digests) (map Ok digests)

-- PATH(i, D)
abbrev pub inclusion_path : NodeHash → Digest → ℕ → List Digest → List (Outcome Digest)
inclusion_path hash empty i digests = path (joined hash) (Ok empty) (length digests) i (map Ok digests)

-- PROOF(m, D)
abbrev pub consistency_path : NodeHash → Digest → ℕ → List Digest → List (Outcome Digest)
consistency_path hash empty m digests = subproof (joined hash) (Ok empty) (length digests) m (map Ok digests) true

-- a log: its hasher, the root of no leaves, and the leaves' digests
pub record LogValue (T : Type 0) : Type 0 where
  pub hasher : T
  pub empty : Digest
  pub digests : List Digest

-- the root of the first leaves
abbrev pub root_at : {T : Type 0} → NodeHash → LogValue T → ℕ → Outcome Digest
root_at hash log size = merkle_tree_hash hash log.empty (take size log.digests)

-- a log with more digests behind
abbrev pub with_more : {T : Type 0} → LogValue T → List Digest → LogValue T
with_more log more = record { hasher = log.hasher; empty = log.empty; digests = log.digests ++ more }
