-- An element of a log that becomes another one, where the log's stored digests lie in memory.
use Rattle.std.specs.Prelude.{◌≡◌, ◌==◌, ◌%◌, ◌<◌, ℕ, suc, List, [], length, get_or, Ok, Err}
use Rattle.ark_base.specs.declared.error.Error.{Error}
use Rattle.ark_base.specs.Outcome.{Outcome}
use Rattle.ark_paths.specs.Pair.{Digest}
use Rattle.merkle_log.specs.Binding.{index_beside}
use Rattle.merkle_log.specs.Log.{NodeHash}
use Rattle.merkle_log.specs.Stored.{position}
use Rattle.merkle_log.specs.Walk.{hash_beside, index_up}

-- A list of this size has a complete subtree of so many levels over the leaf of an index; of none it is the leaf.
abbrev pub HasOverLeaf : ℕ → ℕ → ℕ → Type 0
HasOverLeaf size index level = index_up level index < index_up level size

-- A digest at this position of the memory is that of a complete subtree over the leaf of an index.
abbrev pub IsOverLeaf : ℕ → ℕ → ℕ → Type 0
IsOverLeaf size index at = (level : ℕ) × HasOverLeaf size index level × (at ≡ position level (index_up level index))

-- the hash over a place of a row, where this digest stands at the place, and the row's own beside it
abbrev pub hashed_over : NodeHash → List Digest → ℕ → Digest → Outcome Digest
hashed_over hash row place own = hash_beside hash (place % 2 == 1) own (get_or row (index_beside place) [])

-- Up to a level these are the digests over the leaf of an index that becomes another one: that one first, and above
-- each the hash of it and of the digest beside it, which stays.
pub record Climbs (hash : NodeHash) (rows : ℕ → List Digest) (index : ℕ) (own : Digest) (over : List Digest)
    (level : ℕ) : Type 0 where
  pub first : get_or over 0 [] ≡ own
  pub hashed : (k : ℕ) → k < level
      → hashed_over hash (rows k) (index_up k index) (get_or over k []) ≡ Ok (get_or over (suc k) [])

-- The digests over the leaf are made up to a level, and the hash refuses the pair that is the next one's.
pub record RefusesClimb (hash : NodeHash) (rows : ℕ → List Digest) (size index : ℕ) (own : Digest) : Type 0 where
  pub level : ℕ
  pub over : List Digest
  pub climbs : Climbs hash rows index own over level
  pub has : HasOverLeaf size index (suc level)
  pub error : Error
  pub refused : hashed_over hash (rows level) (index_up level index) (get_or over level []) ≡ Err error

-- Digests are put to the positions of the complete subtrees over the leaf of an index, the lowest first. All others are
-- as before.
pub record PutsOver (size index : ℕ) (old new over : List Digest) : Type 0 where
  pub long : length new ≡ length old
  pub put : (level : ℕ) → HasOverLeaf size index level
      → get_or new (position level (index_up level index)) [] ≡ get_or over level []
  pub others : (at : ℕ) → (IsOverLeaf size index at → ⊥) → get_or new at [] ≡ get_or old at []
