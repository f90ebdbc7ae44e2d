-- A log's list that grows level by level.
use Rattle.std.specs.Prelude.{◌≡◌, ◌==◌, ◌<◌, ◌≤◌, ◌+◌, ◌-◌, ◌*◌, ◌%◌, ◌^◌, ℕ, Bool, List, [], length, get_or}
use Rattle.ark_paths.specs.Index.{log2}
use Rattle.ark_paths.specs.Pair.{Digest}
use Rattle.ark_trees.specs.Rfc6962.{node_hash}
use Rattle.merkle_log.specs.Asked.{Holding, IsPeak}
use Rattle.merkle_log.specs.Stored.{position, stored_count, StoredValue}
use Rattle.merkle_log.specs.Walk.{index_up}

-- the digest of a place in a list of stored digests
abbrev pub place_in : List Digest → ℕ → ℕ → Digest
place_in digests level place = get_or digests (position level place) []

-- the hash of the two digests below a place of the level above
abbrev pub parent_in : List Digest → ℕ → ℕ → Digest
parent_in digests level place = node_hash (place_in digests level (2 * place)) (place_in digests level (2 * place + 1))

-- Behind a log's list there is room for the places of the level above this one, from one on and before another. The log
-- lacks them, and holds what they are made of.
pub record HasRoom (stored : StoredValue) (holds : ℕ → ℕ → Type 0) (size level first end room : ℕ) : Type 0 where
  pub size_is : stored.size ≡ size
  pub whole : stored_count size ≤ length stored.digests
  pub held : Holding holds 0 (IsPeak size)
  pub lacks : index_up (level + 1) size ≤ first
  pub fits : end * 2 ^ (level + 1) < 2 ^ 63
  pub end_fits : end < 2 ^ 63
  pub size_fits : size < 2 ^ 63
  pub inside : stored_count (end * 2 ^ (level + 1)) ≤ stored_count size + room

-- The places of the level above this one, from one on and before another, got the hashes of the digests below them, and
-- those on the levels up to this one stayed.
pub record Raises (old new : List Digest) (level first end : ℕ) : Type 0 where
  pub raised : (place : ℕ) → first ≤ place → place < end → place_in new (level + 1) place ≡ parent_in old level place
  pub below : (lower place : ℕ) → lower ≤ level → place_in new lower place ≡ place_in old lower place

-- The digests of leaves stand behind those of so many.
abbrev pub Lies : List Digest → ℕ → List Digest → Type 0
Lies all size digests = (place : ℕ) → place < length digests → place_in all 0 (size + place) ≡ get_or digests place []

-- Up to a level, each place that a longer log has and one of this size lacks has the hash of the two digests below it.
pub record RisesTo (all : List Digest) (size total level : ℕ) : Type 0 where
  pub raised : (l place : ℕ) → l < level → index_up (l + 1) size ≤ place → place < index_up (l + 1) total
      → place_in all (l + 1) place ≡ parent_in all l place

-- the level of the smallest complete subtree that has at least so many leaves
abbrev pub covering_level : ℕ → ℕ
covering_level count = log2 (2 * count - 1)

-- whether a part of so many entries, hashed apart, can be put behind so many others: a power of two that is at least
-- the part's count divides that of the others, so that each subtree of the part is one of the whole log
abbrev pub joins_behind : ℕ → ℕ → Bool
joins_behind size count = size % 2 ^ covering_level count == 0
