-- The rows that more leaves put behind those of a log.
use Rattle.std.specs.Prelude.{◌≡◌, ◌++◌, ℕ, List, [], length, map, get_or}
use Rattle.std.specs.Vec.Iter.{into_iter_items}
use Rattle.std.specs.declared.vec.IntoIter.{IntoIter}
use Rattle.ark_paths.specs.Pair.{Digest}
use Rattle.merkle_log.specs.Walk.{index_up}

-- the digests that are left of a row, the lowest row being the first
abbrev pub left_of : {A Z : Type 0} → (A → Digest) → List (IntoIter A Z) → ℕ → List Digest
left_of numbers rows level = map numbers (get_or (map into_iter_items rows) level [])

-- rows with more behind each
abbrev pub with_rows : (ℕ → List Digest) → (ℕ → List Digest) → ℕ → List Digest
with_rows rows more level = rows level ++ more level

-- The rows are as long as those of a log of this size.
abbrev pub AreOfSize : ℕ → (ℕ → List Digest) → Type 0
AreOfSize size rows = (level : ℕ) → length (rows level) ≡ index_up level size
