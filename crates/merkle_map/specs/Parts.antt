-- What contracts see of a tree.
use Rattle.std.specs.Prelude.{Option, Some, None, Ok, Err}
use Rattle.ark_base.specs.Outcome.{Outcome}
use Rattle.merkle_map.specs.Map.{Digest, Entry}
use Rattle.merkle_map.specs.Tree.{Shape, Empty, One, Fork, Hidden}
use Rattle.merkle_map.specs.Changes.{entry_of}
use Rattle.merkle_map.specs.declared.part.Entry.{Entry as KeyAndValue}
use Rattle.merkle_map.specs.declared.part.Part.{Part, Empty as NoEntry, One as OneEntry, Fork' as TwoSides, Hidden as Behind}
use Rattle.merkle_map.specs.declared.top.Top.{Top}
use Rattle.merkle_map.specs.declared.top.Top.TheVariants.{Shown, Digest as Alone}

-- a key with its value
abbrev pub entry_seen : KeyAndValue → Entry
entry_seen entry = entry_of entry.key entry.value

-- a tree, its digests by their numbers
abbrev pub shape : {D : Type 0} → (D → Digest) → Part D → Shape
shape numbers NoEntry = Empty
shape numbers (OneEntry entry) = One (entry_seen entry.value)
shape numbers (TwoSides p left right digest) = Fork (shape numbers left) (shape numbers right)
shape numbers (Behind digest) = Hidden (numbers digest.value)

-- a whole tree, its digests by their numbers
abbrev pub top_shape : {D : Type 0} → (D → Digest) → Top D → Shape
top_shape numbers (Shown part) = shape numbers part
top_shape numbers (Alone digest) = Hidden (numbers digest)

-- a value that may be there, by its numbers
abbrev pub value_seen : {A : Type 0} → (A → Digest) → Option A → Option Digest
value_seen numbers None = None
value_seen numbers (Some value) = Some (numbers value)

-- what a call found, its value by its numbers
abbrev pub found_seen : {A : Type 0} → (A → Digest) → Outcome (Option A) → Outcome (Option Digest)
found_seen numbers (Ok found) = Ok (value_seen numbers found)
found_seen numbers (Err error) = Err error
