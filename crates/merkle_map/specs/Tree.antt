-- Trees of which parts may be hidden, and the maps that they show.
use Rattle.std.specs.Prelude.{◌≡◌, ◌≢◌, ◌⊎◌, ◌<◌, ◌≤◌, ◌+◌, ◌-◌, ℕ, zero, suc, Bool, true, false, if◌then◌else◌, List, [], ◌∷◌, length, get_or, Ok, Err}
use Rattle.ark_base.specs.Outcome.{Outcome, ◌>>=◌}
use Rattle.ark_base.specs.declared.error.Error.TheVariants.{GenericError}
use Rattle.ark_base.specs.declared.error.Refusal.TheVariants.{LengthOverflow}
use Rattle.merkle_map.specs.Map.{Key, Digest, Entry, Node, Nothing, Leaf, Pair, MapHashes, digest_of, bit_of, side, node_below, key_bits}

-- a tree: of nothing, of one entry, of two sides, or hidden but for its digest
pub data Shape : Type 0 where
  Empty : Shape
  One : (entry : Entry) → Shape
  Fork : (left right : Shape) → Shape
  Hidden : (digest : Digest) → Shape

-- the digest of a tree, or the lowest and then leftmost error
abbrev pub shape_digest : MapHashes → Shape → Outcome Digest
shape_digest h Empty = Ok h.nothing
shape_digest h (One entry) = h.leaf entry.key entry.value
shape_digest h (Fork left right) = do
  l ← shape_digest h left
  r ← shape_digest h right
  h.pair l r
shape_digest h (Hidden digest) = Ok digest

-- Nothing of the tree is hidden.
abbrev pub IsWhole : Shape → Type 0
IsWhole Empty = Unit {0}
IsWhole (One entry) = Unit {0}
IsWhole (Fork left right) = IsWhole left × IsWhole right
IsWhole (Hidden digest) = ⊥

-- ---- places

-- the first bits of a key, the last of them first
abbrev pub way : ℕ → Key → List Bool
way zero key = []
way (suc level) key = bit_of level key ∷ way level key

-- a key has 32 bytes
abbrev pub IsKey : Key → Type 0
IsKey key = (length key ≡ 32) × ((i : ℕ) → get_or key i 0 < 256)

-- how many entries a tree may have at most, with 2 for two or more
abbrev pub weight : Shape → ℕ
weight Empty = 0
weight (One entry) = 1
weight (Fork left right) = 2
weight (Hidden digest) = 2

-- The tree stands where these bits lead from the root: each entry is on its key's way, and a fork is above two entries
-- or more, or may be.
abbrev pub StandsAt : List Bool → Shape → Type 0
StandsAt bits Empty = Unit {0}
StandsAt bits (One entry) = IsKey entry.key × (way (length bits) entry.key ≡ bits)
StandsAt bits (Fork left right) = (length bits < key_bits) × (2 ≤ weight left + weight right)
    × StandsAt (false ∷ bits) left × StandsAt (true ∷ bits) right
StandsAt bits (Hidden digest) = Unit {0}

-- ---- the maps that a tree shows

-- the digest of the entries below a place some levels below the root
abbrev pub digest_at : MapHashes → ℕ → List Entry → Outcome Digest
digest_at h level entries = do
  node ← node_below h (key_bits - level) level entries
  digest_of h node

-- A tree that stands some levels below the root shows these entries: what it does not hide is as in their own tree, and
-- what it hides has their digest.
abbrev pub Shows : MapHashes → ℕ → Shape → List Entry → Type 0
Shows h level Empty entries = entries ≡ []
Shows h level (One entry) entries = entries ≡ entry ∷ []
Shows h level (Fork left right) entries = (level < key_bits) × (2 ≤ length entries)
    × Shows h (suc level) left (side false level entries) × Shows h (suc level) right (side true level entries)
Shows h level (Hidden digest) entries = digest_at h level entries ≡ Ok digest

-- ---- what a tree with a map's root shows

-- the node at the top of a tree that is not hidden
abbrev pub top_of : MapHashes → Shape → Outcome Node
top_of h Empty = Ok Nothing
top_of h (One entry) = Ok (Leaf entry)
top_of h (Fork left right) = do
  l ← shape_digest h left
  r ← shape_digest h right
  Ok (Pair l r)
top_of h (Hidden digest) = Err (GenericError LengthOverflow)

-- The top of a tree and that of the entries' own tree are two different nodes with one hash.
pub record TopsCollide (h : MapHashes) (level : ℕ) (shape : Shape) (entries : List Entry) : Type 0 where
  pub given : Node
  pub given_is : top_of h shape ≡ Ok given
  pub own : Node
  pub own_is : node_below h (key_bits - level) level entries ≡ Ok own
  pub differ : given ≢ own
  pub common : Digest
  pub given_hash : digest_of h given ≡ Ok common
  pub own_hash : digest_of h own ≡ Ok common

-- They collide below these bits.
abbrev pub CollidesBelow : MapHashes → ℕ → List Bool → Shape → List Entry → Type 0
CollidesBelow h level [] shape entries = TopsCollide h level shape entries
CollidesBelow h level (bit ∷ bits) (Fork left right) entries =
    CollidesBelow h (suc level) bits (if bit then right else left) (side bit level entries)
CollidesBelow h level (bit ∷ bits) shape entries = ⊥

-- The tree shows the entries, or they collide at a place that is named.
abbrev pub ShowsOrCollides : MapHashes → ℕ → Shape → List Entry → Type 0
ShowsOrCollides h level shape entries = Shows h level shape entries
    ⊎ ((bits : List Bool) × CollidesBelow h level bits shape entries)
