-- The order of keys, and the next entry from a key on.
use Rattle.std.specs.Prelude.{◌≡◌, ◌<◌, ◌⊎◌, ◌&&◌, ℕ, suc, List, Bool, true, false, Option, Some, None, IsSome, Ok, Err}
use Rattle.ark_base.specs.Outcome.{Outcome}
use Rattle.merkle_map.specs.Changes.{entry_of, hides}
use Rattle.merkle_map.specs.Map.{Digest, Entry, Key, MapHashes, bit_of, has_bit, key_bits, value_at}
use Rattle.merkle_map.specs.Tree.{Shape, Empty, One, Fork, Hidden, Shows, way}

-- A key is below another: at the first bit in which they differ, counted from the highest one of the first byte, it has
-- 0.
pub record IsKeyBelow (a b : Key) : Type 0 where
  pub level : ℕ
  pub inside : level < key_bits
  pub alike : way level a ≡ way level b
  pub low : bit_of level a ≡ false
  pub high : bit_of level b ≡ true

-- The map has nothing at a key and above it.
abbrev pub HasNoneFrom : Key → List Entry → Type 0
HasNoneFrom from xs = (other : Key) → IsSome (value_at other xs) → IsKeyBelow other from

-- The entry is the map's with the least key.
pub record IsFirstEntry (xs : List Entry) (entry : Entry) : Type 0 where
  pub there : value_at entry.key xs ≡ Some entry.value
  pub least : (other : Key) → IsSome (value_at other xs) → (other ≡ entry.key) ⊎ IsKeyBelow entry.key other

-- The entry is the map's with the least key that is not below this one.
pub record IsNextEntry (from : Key) (xs : List Entry) (entry : Entry) : Type 0 where
  pub there : value_at entry.key xs ≡ Some entry.value
  pub reached : ¬ IsKeyBelow entry.key from
  pub least : (other : Key) → IsSome (value_at other xs)
      → IsKeyBelow other from ⊎ ((other ≡ entry.key) ⊎ IsKeyBelow entry.key other)

-- ---- the entries from one key to another

-- A key is below the first of two, or above the last.
abbrev pub IsOutside : Key → Key → Key → Type 0
IsOutside first last key = IsKeyBelow key first ⊎ IsKeyBelow last key

-- The map has nothing from one key to another.
abbrev pub HasNoneBetween : Key → Key → List Entry → Type 0
HasNoneBetween first last xs = (other : Key) → IsSome (value_at other xs) → IsOutside first last other

-- The entry is the map's with the least key from one key to another, both with them.
pub record IsFirstBetween (first last : Key) (xs : List Entry) (entry : Entry) : Type 0 where
  pub there : value_at entry.key xs ≡ Some entry.value
  pub inside : ¬ IsOutside first last entry.key
  pub least : (other : Key) → IsSome (value_at other xs)
      → IsOutside first last other ⊎ ((other ≡ entry.key) ⊎ IsKeyBelow entry.key other)

-- The map has this entry first from one key to another, or none.
abbrev pub IsNextIn : Key → Key → List Entry → Option Entry → Type 0
IsNextIn first last xs None = HasNoneBetween first last xs
IsNextIn first last xs (Some entry) = IsFirstBetween first last xs entry

-- ---- trees of which parts may be hidden

-- What was found first is the outcome; where nothing was, the outcome is what is found next.
abbrev pub IsOrElse : Outcome (Option Entry) → (Outcome (Option Entry) → Type 0) → Outcome (Option Entry) → Type 0
IsOrElse (Ok None) next outcome = next outcome
IsOrElse (Ok (Some entry)) next outcome = outcome ≡ Ok (Some entry)
IsOrElse (Err error) next outcome = outcome ≡ Err error

-- On a side that lies outside nothing is found, else what is looked for.
abbrev pub IsOnSide : Bool → (Outcome (Option Entry) → Type 0) → Outcome (Option Entry) → Type 0
IsOnSide true looked_for outcome = outcome ≡ Ok None
IsOnSide false looked_for outcome = looked_for outcome

-- The outcome is the first entry from one key to another of a tree some levels below the root, if it has one; the error
-- is that it hides a part that may have it. The tree may stand on the way of the first key, and of the last: then a
-- side may lie outside.
abbrev pub IsNextKnown : Bool → Bool → ℕ → Key → Key → Shape → Outcome (Option Entry) → Type 0
IsNextKnown on_first on_last level first last Empty outcome = outcome ≡ Ok None
IsNextKnown on_first on_last level first last (One entry) outcome =
    (IsOutside first last entry.key × (outcome ≡ Ok None))
    ⊎ ((¬ IsOutside first last entry.key) × (outcome ≡ Ok (Some entry)))
IsNextKnown on_first on_last level first last (Fork left right) outcome =
    let below = on_first && has_bit true level first in
    let above = on_last && has_bit false level last in
    (found : Outcome (Option Entry)) × IsOnSide below (IsNextKnown on_first above (suc level) first last left) found
    × IsOrElse found (IsOnSide above (IsNextKnown below on_last (suc level) first last right)) outcome
IsNextKnown on_first on_last level first last (Hidden digest) outcome = outcome ≡ Err hides

-- Each map that the tree shows has this entry first from one key to another, or none.
abbrev pub HasNext : Shape → Key → Key → Option Entry → Type 0
HasNext tree first last found = (h : MapHashes) (xs : List Entry) → Shows h 0 tree xs → IsNextIn first last xs found

-- an entry by its key and its value
abbrev pub pair_seen : Option (Key × Digest) → Option Entry
pair_seen None = None
pair_seen (Some pair) = Some (entry_of pair.0 pair.1)

-- what a call found, an entry by its key and its value
abbrev pub next_seen : Outcome (Option (Key × Digest)) → Outcome (Option Entry)
next_seen (Ok found) = Ok (pair_seen found)
next_seen (Err error) = Err error
