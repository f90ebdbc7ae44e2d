-- What is kept of a log: the stored digests of a list of leaf digests, in the hashing of RFC 6962 (section 2.1).
use Rattle.std.specs.Prelude.{◌≡◌, ◌<◌, ◌≤◌, ◌+◌, ◌^◌, ◌&&◌, ℕ, nat_lt, not, Bool, List, [], ◌++◌, length, take, get_or}
use Rattle.ark_base.specs.declared.error.Error.{Error}
use Rattle.ark_paths.specs.Pair.{Digest}
use Rattle.ark_trees.specs.Rfc6962.{node_of}
use Rattle.merkle_log.specs.Append.{RefusesCarry}
use Rattle.merkle_log.specs.Log.{NodeHash}
use Rattle.merkle_log.specs.Stored.{stored_count, StoredValue, row_at, IsStored}

-- the digests that stand in front for a log of this size
abbrev pub front : ℕ → List Digest → StoredValue
front size kept = record { size = size; digests = kept }

-- whether so many digests are as many as a log of this size has, or more; a size has 63 bits
abbrev pub has_front : ℕ → ℕ → Bool
has_front size count = nat_lt size (2 ^ 63) && not (nat_lt count (stored_count size))

-- the stored digests of a log's list, and nothing behind them
abbrev pub stored_front : StoredValue → List Digest
stored_front stored = take (stored_count stored.size) stored.digests

-- The stored digests of a list of leaf digests stand in front: those of its complete subtrees, in the order in which
-- they are completed. The lowest row is the list; each row above has the hashes of the pairs of the row below.
pub record Keeps (leaves kept : List Digest) : Type 0 where
  pub inside : stored_count (length leaves) ≤ length kept
  pub lowest : row_at (front (length leaves) kept) 0 ≡ leaves
  pub hashed : IsStored node_of (row_at (front (length leaves) kept))

-- The same by any hash of pairs.
pub record KeepsBy (hash : NodeHash) (leaves kept : List Digest) : Type 0 where
  pub inside : stored_count (length leaves) ≤ length kept
  pub lowest : row_at (front (length leaves) kept) 0 ≡ leaves
  pub hashed : IsStored hash (row_at (front (length leaves) kept))

-- Digests are appended to a list, the first one first, until the hash refuses a pair that one of them completes.
pub record RefusesAppend (hash : NodeHash) (leaves digests : List Digest) (error : Error) : Type 0 where
  pub place : ℕ
  pub inside : place < length digests
  pub before : List Digest
  pub keeps : KeepsBy hash (leaves ++ take place digests) before
  pub refused : RefusesCarry hash (row_at (front (length leaves + place) before)) (get_or digests place []) error
