-- Which places of a log's rows a root, a proof or an append asks for.
use Rattle.std.specs.Prelude.{◌≡◌, ◌<◌, ◌+◌, ◌%◌, ℕ, Option, Some, None}
use Rattle.merkle_log.specs.Binding.{index_beside}
use Rattle.merkle_log.specs.Walk.{index_up}

-- The place is the last one of its level, where a list of this size has an odd number of complete places there: the
-- complete subtrees into which the list falls stand at such places, of which there are at most 64.
abbrev pub IsPeak : ℕ → ℕ → ℕ → Type 0
IsPeak size level place = (index_up level size % 2 ≡ 1) × (index_up level size ≡ place + 1)

-- The place is complete in a list of this size, and stands beside the way from an index up: at most one of each level.
abbrev pub IsBeside : ℕ → ℕ → ℕ → ℕ → Type 0
IsBeside index size level place = (place ≡ index_beside (index_up level index)) × (place < index_up level size)

-- The place is the last one of the lowest level that has an odd number of complete places in a list of this size.
abbrev pub IsLowest : ℕ → ℕ → ℕ → Type 0
IsLowest size level place =
    IsPeak size level place × ((below : ℕ) → below < level → index_up below size % 2 ≡ 0)

-- All of some places are held, from a level on.
abbrev pub Holding : (ℕ → ℕ → Type 0) → ℕ → (ℕ → ℕ → Type 0) → Type 0
Holding holds from Asked = (level place : ℕ) → Asked level place → holds (from + level) place

-- how many digests a row has of its own at the right edge: its first ones, and the last one where its place is complete
abbrev pub own_count : {A : Type 0} → ℕ → Option A → ℕ
own_count last_index None = last_index + 1
own_count last_index (Some last) = last_index
