-- The pairs that the check of a multi-proof has hashed. A place is a level, counted from the lowest pairs, and a number
-- on it; above the leaf of index i stands number i / 2 ^ (level + 1).
use Rattle.std.specs.Prelude.{◌≡◌, ◌==◌, ◌&&◌, ◌||◌, ℕ, suc, ◌+◌, ◌/◌, ◌^◌, ◌≤◌, ◌<◌, ◌-◌, nat_lt, Bool, cond, if◌then◌else◌, List, [], ◌∷◌, ◌++◌, length, map, get_or, Some, Ok}
use Rattle.std.specs.BTreeMap.{BTreeMap, get}
use Rattle.std.specs.List.{list_any}
use Rattle.std.specs.Option.{is_some}
use Rattle.ark_base.specs.Outcome.{Outcome}
use Rattle.ark_paths.specs.Above.{count_above}
use Rattle.ark_paths.specs.Asked.{RisesBy}
use Rattle.ark_paths.specs.Bind.{couple, halves, path_pair}
use Rattle.ark_paths.specs.Kept.{place_cmp, same_place, AreKept}
use Rattle.ark_paths.specs.Pair.{Digest, HashPair}
use Rattle.ark_paths.specs.Path.{Way}
use Rattle.ark_paths.specs.Rows.{part}
use Rattle.ark_paths.specs.declared.multi_path.table.Entries.{Entries}
use Rattle.ark_paths.specs.declared.multi_path.table.Entry.{Entry}
use Rattle.ark_paths.specs.declared.multi_path.table.Pair.{Pair}
use Rattle.ark_paths.specs.declared.multi_path.table.Table.{Table}

-- ---- entries

-- a pair, left first: its own digest is one of these
abbrev pub pair_seen : {X : Type 0} → (X → Digest) → List Digest → Pair X → Digest × Digest
pair_seen numbers digests pair = couple pair.is_right (get_or digests pair.own []) (numbers pair.sibling.now)

-- An entry's digest, one of those that were made, is the hash of its pair.
pub record IsMade {X : Type 0} (numbers : X → Digest) (hash : Digest → Digest → Outcome Digest)
    (digests made : List Digest) (entry : Entry X) : Type 0 where
  pub own : entry.pair.own < length digests
  pub hashed : entry.digest < length made
  pub is : hash (pair_seen numbers digests entry.pair).0 (pair_seen numbers digests entry.pair).1
      ≡ Ok (get_or made entry.digest [])

-- all entries are made, and those at hand are kept
pub record AllMade {X : Type 0} (numbers : X → Digest) (hash : Digest → Digest → Outcome Digest)
    (digests made : List Digest) (entries : Entries X) : Type 0 where
  pub kept : AreKept entries.all entries.last.items
  pub all : (place : ℕ × ℕ) (entry : Entry X) → get place_cmp entries.all place ≡ Some entry
      → IsMade numbers hash digests made entry

-- the second list begins with the first
abbrev pub Extends : List Digest → List Digest → Type 0
Extends first second = (more : List Digest) × (second ≡ first ++ more)

-- all entries of a table are made
pub record IsTable {L D : Type 0} (leaf : L → Digest) (inner : D → Digest) (h : HashPair) (table : Table L D)
    : Type 0 where
  pub lowest : AllMade leaf h.bottom (map leaf table.leaves.items) (map inner table.made.items) table.lowest
  pub upper : AllMade inner h.upper (map inner table.made.items) (map inner table.made.items) table.upper

-- ---- entries of a tree

-- The entries are those of the places that were asked, each with the pair that stands there.
pub record HoldsPlaces {X : Type 0} (numbers : X → Digest) (digests : List Digest) (pairs : ℕ × ℕ → Digest × Digest)
    (asked : ℕ × ℕ → Bool) (entries : BTreeMap (ℕ × ℕ) (Entry X)) : Type 0 where
  pub at : (place : ℕ × ℕ) → is_some (get place_cmp entries place) ≡ asked place
  pub pair : (place : ℕ × ℕ) (entry : Entry X) → get place_cmp entries place ≡ Some entry
      → pair_seen numbers digests entry.pair ≡ pairs place

-- one more place
abbrev pub with_place : ℕ × ℕ → (ℕ × ℕ → Bool) → ℕ × ℕ → Bool
with_place place asked other = same_place place other || asked other

-- whether a number is among those that leaves with these indexes have on a level
abbrev pub is_above : ℕ → List ℕ → ℕ → Bool
is_above level indexes number = list_any (λ i. i / 2 ^ suc level == number) indexes

-- the places above some leaves on levels that a test picks; on those below `level`, above one more leaf
abbrev pub places_above : (ℕ → Bool) → ℕ → ℕ → List ℕ → ℕ × ℕ → Bool
places_above picks level index seen place =
    picks place.0 && is_above place.0 (if nat_lt place.0 level then index ∷ seen else seen) place.1

-- The table's entries are those of the places above some leaves, on the levels up to the last of a path of this length;
-- on levels below `level`, above one more leaf.
pub record HoldsTree {L D : Type 0} (leaf : L → Digest) (inner : D → Digest) (pairs : ℕ × ℕ → Digest × Digest)
    (above level index : ℕ) (seen : List ℕ) (table : Table L D) : Type 0 where
  pub lowest : HoldsPlaces leaf (map leaf table.leaves.items) pairs
      (places_above (λ l. l == 0) level index seen) table.lowest.all
  pub upper : HoldsPlaces inner (map inner table.made.items) pairs
      (places_above (λ l. nat_lt 0 l && nat_lt l (suc above)) level index seen) table.upper.all

-- the tree's pair at a place
abbrev pub pair_at : HashPair → List Digest → ℕ × ℕ → Digest × Digest
pair_at h digests place = halves h place.0 (part place.0 place.1 digests)

-- the pairs on a way are those that stand at its places
abbrev pub HasPairs : HashPair → Way → Digest → (ℕ × ℕ → Digest × Digest) → Type 0
HasPairs h way digest pairs = (level : ℕ) → level ≤ length way.above
    → path_pair h way digest (length way.above - level) ≡ Ok (pairs (level, way.index / 2 ^ suc level))

-- ---- what asking leaves

-- a row of the table: the digests that its pairs name, those that were made, its entries, and how many pairs were
-- counted
pub record Row (X D : Type 0) : Type 0 where
  pub digests : List Digest
  pub made : List D
  pub entries : Entries X
  pub count : ℕ

-- the row of these
abbrev pub row_of : {X D : Type 0} → List Digest → List D → Entries X → ℕ → Row X D
row_of digests made entries count = record { digests = digests; made = made; entries = entries; count = count }

-- What a pair that was asked at a place leaves: the number of a digest; those that were made before, and at most
-- one more; their entries, of a tree where they were such; and a count that rose by as many.
pub record IsServed {X D : Type 0} (numbers : X → Digest) (inner : D → Digest) (hash : Digest → Digest → Outcome Digest)
    (place : ℕ × ℕ) (pair : Pair X) (before after : Row X D) (number : ℕ) : Type 0 where
  pub below : number < length after.made
  pub grows : Extends (map inner before.made) (map inner after.made)
  pub made : AllMade numbers hash after.digests (map inner after.made) after.entries
  pub holds : (pairs : ℕ × ℕ → Digest × Digest) (asked : ℕ × ℕ → Bool)
      → HoldsPlaces numbers before.digests pairs asked before.entries.all
      → pair_seen numbers before.digests pair ≡ pairs place
      → HoldsPlaces numbers after.digests pairs (with_place place asked) after.entries.all
      × (length after.made ≡ length before.made + cond (asked place) 0 1)
  pub rises : RisesBy (length after.made - length before.made) before.count after.count

-- a table, and how many pairs were counted
pub record Walk (L D : Type 0) : Type 0 where
  pub table : Table L D
  pub count : ℕ

-- this table with this count
abbrev pub walk_of : {L D : Type 0} → Table L D → ℕ → Walk L D
walk_of table count = record { table = table; count = count }

-- What a way up from a leaf with this digest leaves: a table, of a tree where it was such, with as many digests more as
-- places are new; and a count that rose by as many.
pub record IsWalked {L D : Type 0} (leaf : L → Digest) (inner : D → Digest) (h : HashPair) (way : Way)
    (hashed : Outcome Digest) (before after : Walk L D) : Type 0 where
  pub table : IsTable leaf inner h after.table
  pub holds : (pairs : ℕ × ℕ → Digest × Digest) (seen : List ℕ) (digest : Digest)
      → HoldsTree leaf inner pairs (length way.above) 0 way.index seen before.table → hashed ≡ Ok digest
      → HasPairs h way digest pairs
      → HoldsTree leaf inner pairs (length way.above) 0 way.index (way.index ∷ seen) after.table
      × (length after.table.made.items + count_above (suc (length way.above)) seen
      ≡ length before.table.made.items + count_above (suc (length way.above)) (way.index ∷ seen))
  pub rises : RisesBy (length after.table.made.items - length before.table.made.items) before.count after.count
  pub grows : length before.table.made.items ≤ length after.table.made.items
