-- Where two maps in one memory differ.
use Rattle.std.specs.Prelude.{◌≡◌, ◌≢◌, ◌⊎◌, ◌<◌, ◌≤◌, ℕ, Bool, true, if◌then◌else◌, List, [], ◌∷◌, length, take, Option, MatchOption}
use Rattle.merkle_map.specs.Map.{Entry, HaveSame, Key, MapHashes, has_bit, value_at}
use Rattle.merkle_map.specs.Order.{IsKeyBelow}
use Rattle.merkle_map.specs.Tree.{Shape, Empty, One, Fork, Hidden, StandsAt, way}
use Rattle.merkle_map.specs.Whole.{entries_of}
use Rattle.kept_map.specs.KeptMap.{LaidAt, entry_in}
use Rattle.kept_map.specs.declared.differ.Difference.{Difference}
use Rattle.kept_map.specs.declared.differ.Ends.{Ends}
use Rattle.kept_map.specs.declared.differ.Ends.TheVariants.{Alike, Apart, Forks}
use Rattle.kept_map.specs.declared.nodes.Part.{Part}
use Rattle.kept_map.specs.declared.nodes.Part.TheVariants.{Nothing, Entry as EntryAt, Fork as ForkAt}

-- Two maps have the same at each key that is not below another.
abbrev pub HaveSameFrom : Key → List Entry → List Entry → Type 0
HaveSameFrom from xs ys = (key : Key) → ¬ IsKeyBelow key from → value_at key xs ≡ value_at key ys

-- Of the keys that are not below another, two maps differ at this one, and have the same at each that is below it.
pub record IsFirstApart (from : Key) (xs ys : List Entry) (key : Key) : Type 0 where
  pub differ : value_at key xs ≢ value_at key ys
  pub reached : ¬ IsKeyBelow key from
  pub same : (other : Key) → ¬ IsKeyBelow other from → IsKeyBelow other key → value_at other xs ≡ value_at other ys

-- Two maps differ first at a key, and each has there what is said.
pub record IsDifference (from : Key) (xs ys : List Entry) (difference : Difference) : Type 0 where
  pub first : IsFirstApart from xs ys difference.key
  pub older : value_at difference.key xs ≡ difference.older
  pub newer : value_at difference.key ys ≡ difference.newer

-- ---- on the way

-- A key is not below another on whose way a tree stands.
abbrev pub IsReached : Bool → Key → Key → Type 0
IsReached is_on from key = is_on ≡ true → ¬ IsKeyBelow key from

-- Two maps have the same at each key that is reached.
abbrev pub HaveSameReached : Bool → Key → List Entry → List Entry → Type 0
HaveSameReached is_on from xs ys = (key : Key) → IsReached is_on from key → value_at key xs ≡ value_at key ys

-- Of the keys that are reached, two maps differ at this one, and have the same at each that is below it.
pub record IsFirstReached (is_on : Bool) (from : Key) (xs ys : List Entry) (key : Key) : Type 0 where
  pub differ : value_at key xs ≢ value_at key ys
  pub reached : IsReached is_on from key
  pub same : (other : Key) → IsReached is_on from other → IsKeyBelow other key
      → value_at other xs ≡ value_at other ys

-- what was found in two maps: a key, or that they have the same
abbrev pub IsFound : Bool → Key → List Entry → List Entry → Option Key → Type 0
IsFound is_on from xs ys found = MatchOption found (HaveSameReached is_on from xs ys) (IsFirstReached is_on from xs ys)

-- Two trees lie at two numbers, over whichever of the entries, and stand where the same bits lead.
pub record LieBoth (h : MapHashes) (entries forks : List (List ℕ)) (older newer : ℕ) (bits : List Bool) (s t : Shape)
    : Type 0 where
  pub older_first : ℕ
  pub older_count : ℕ
  pub older_inside : older_count ≤ length forks
  pub older_lies : LaidAt h (take older_first entries) forks older_count older s
  pub older_stands : StandsAt bits s
  pub newer_first : ℕ
  pub newer_count : ℕ
  pub newer_inside : newer_count ≤ length forks
  pub newer_lies : LaidAt h (take newer_first entries) forks newer_count newer t
  pub newer_stands : StandsAt bits t

-- What was found is the place of an entry whose key is the first at which the trees at two numbers differ, or there is
-- none. The trees may stand on a key's way.
abbrev pub IsFoundAt : List (List ℕ) → List (List ℕ) → ℕ → ℕ → ℕ → Bool → Key → Option ℕ → Type 0
IsFoundAt entries forks older newer level is_on from found = (h : MapHashes) (bits : List Bool) (s t : Shape)
    → LieBoth h entries forks older newer bits s t → length bits ≡ level → (is_on ≡ true → bits ≡ way level from)
    → MatchOption found (HaveSameReached is_on from (entries_of s) (entries_of t))
    (λ place. IsFirstReached is_on from (entries_of s) (entries_of t) (entry_in entries place).key)

-- ---- two trees of at most one entry

-- the entries of a part that is no fork
abbrev pub few : List (List ℕ) → Part → List Entry
few entries Nothing = []
few entries (EntryAt k) = entry_in entries k ∷ []
few entries (ForkAt k) = []

-- The part is a fork.
abbrev pub IsForkPart : Part → Type 0
IsForkPart Nothing = ⊥
IsForkPart (EntryAt k) = ⊥
IsForkPart (ForkAt k) = Unit {0}

-- Two maps differ at two keys, or at one, and nowhere else.
pub record DifferAtBoth (xs ys : List Entry) (lower higher : Key) : Type 0 where
  pub lower_differs : value_at lower xs ≢ value_at lower ys
  pub higher_differs : value_at higher xs ≢ value_at higher ys
  pub others : (key : Key) → (key ≡ lower) ⊎ ((key ≡ higher) ⊎ (value_at key xs ≡ value_at key ys))
  pub rising : (lower ≡ higher) ⊎ IsKeyBelow lower higher

-- What two parts are: alike, apart, or one is a fork.
abbrev pub IsEnds : List (List ℕ) → Part → Part → Ends → Type 0
IsEnds entries a b Alike = (¬ IsForkPart a) × (¬ IsForkPart b) × HaveSame (few entries a) (few entries b)
IsEnds entries a b (Apart lower higher) = (¬ IsForkPart a) × (¬ IsForkPart b) × (lower < length entries)
    × (higher < length entries)
    × DifferAtBoth (few entries a) (few entries b) (entry_in entries lower).key (entry_in entries higher).key
IsEnds entries a b Forks = IsForkPart a ⊎ IsForkPart b

-- ---- sides

-- one side of a tree some levels below the root: an entry is on that of its key
abbrev pub half_shape : Bool → ℕ → Shape → Shape
half_shape b level Empty = Empty
half_shape b level (One entry) = if has_bit b level entry.key then One entry else Empty
half_shape b level (Fork left right) = if b then right else left
half_shape b level (Hidden digest) = Hidden digest
