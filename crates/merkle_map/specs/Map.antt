-- Maps from keys to values, and their roots: the compact sparse Merkle tree.
use Rattle.std.specs.Prelude.{◌≡◌, ℕ, zero, suc, ◌-◌, ◌/◌, ◌%◌, ◌^◌, ◌==◌, Bool, true, false, not, if◌then◌else◌, List, [], ◌∷◌, get_or, Option, Some, None, Ok, Err}
use Rattle.std.specs.List.{filter}
use Rattle.std.specs.Str.{bytes_eq}
use Rattle.ark_base.specs.Outcome.{Outcome, ◌>>=◌}
use Rattle.ark_base.specs.declared.error.Error.TheVariants.{GenericError}
use Rattle.ark_base.specs.declared.error.Refusal.TheVariants.{LengthOverflow}

-- a key: 32 bytes
abbrev pub Key : Type 0
Key = List ℕ

-- a digest by its numbers
abbrev pub Digest : Type 0
Digest = List ℕ

-- a key with its value, which is a digest
pub record Entry : Type 0 where
  pub key : Key
  pub value : Digest

-- the value at a key, if there is one
abbrev pub value_at : Key → List Entry → Option Digest
value_at key [] = None
value_at key (entry ∷ entries) = if bytes_eq entry.key key then Some entry.value else value_at key entries

-- ---- bits of keys

-- how many bits a key has
abbrev pub key_bits : ℕ
key_bits = 256

-- a bit of a key, counted from the highest one of its first byte
abbrev pub bit_of : ℕ → Key → Bool
bit_of i key = (get_or key (i / 8) 0 / 2 ^ (7 - i % 8)) % 2 == 1

-- The key has this bit.
abbrev pub has_bit : Bool → ℕ → Key → Bool
has_bit bit i key = if bit then bit_of i key else not (bit_of i key)

-- the entries whose keys have this bit
abbrev pub side : Bool → ℕ → List Entry → List Entry
side bit i entries = filter (λ entry. has_bit bit i entry.key) entries

-- ---- the tree of a map

-- a node of a tree, as it is hashed
pub data Node : Type 0 where
  Nothing : Node
  Leaf : (entry : Entry) → Node
  Pair : (left right : Digest) → Node

-- the hashes of a tree: the digest of nothing, what the hash of leaves returns, what the hash of two digests returns
pub record MapHashes : Type 0 where
  pub nothing : Digest
  pub leaf : Key → Digest → Outcome Digest
  pub pair : Digest → Digest → Outcome Digest

-- a hash of two at its parameters, with the digest of nothing
pub record HasherValue (P : Type 0) : Type 0 where
  pub parameters : P
  pub nothing : Digest

-- The hashes of a tree by a hash of two: an entry is that of two inputs, a fork that of two digests.
abbrev pub map_hashes : {P : Type 0} → (P → List ℕ → List ℕ → Outcome Digest)
    → (P → List ℕ → List ℕ → Outcome Digest) → HasherValue P → MapHashes
map_hashes evaluated compressed hasher = record {
  nothing = hasher.nothing;
  leaf = evaluated hasher.parameters;
  pair = compressed hasher.parameters;
}

-- the hash of a node
abbrev pub digest_of : MapHashes → Node → Outcome Digest
digest_of h Nothing = Ok h.nothing
digest_of h (Leaf entry) = h.leaf entry.key entry.value
digest_of h (Pair left right) = h.pair left right

-- The node of the entries below a place: nothing, the only entry, or two digests. The first is that of the entries
-- whose next bit is 0, the second that of those whose next bit is 1. The place lies some levels below the root, and so
-- many bits are left: with none left, two entries have no node.
abbrev pub node_below : MapHashes → ℕ → ℕ → List Entry → Outcome Node
node_below h bits level [] = Ok Nothing
node_below h bits level (entry ∷ []) = Ok (Leaf entry)
node_below h zero level (first ∷ second ∷ rest) = Err (GenericError LengthOverflow)
node_below h (suc bits) level (first ∷ second ∷ rest) = do
  l ← node_below h bits (suc level) (side false level (first ∷ second ∷ rest))
  left ← digest_of h l
  r ← node_below h bits (suc level) (side true level (first ∷ second ∷ rest))
  right ← digest_of h r
  Ok (Pair left right)

-- the root of a map
abbrev pub root_of_map : MapHashes → List Entry → Outcome Digest
root_of_map h entries = do
  node ← node_below h key_bits 0 entries
  digest_of h node

-- the node of one entry
abbrev pub leaf_of : Key → Digest → Node
leaf_of key value = Leaf (record { key = key; value = value })

-- ---- maps that change

-- the entries of other keys
abbrev pub without : Key → List Entry → List Entry
without key entries = filter (λ entry. not (bytes_eq entry.key key)) entries

-- the map with a value at a key
abbrev pub put : Key → Digest → List Entry → List Entry
put key value entries = record { key = key; value = value } ∷ without key entries

-- No key comes twice.
abbrev pub IsMap : List Entry → Type 0
IsMap [] = Unit {0}
IsMap (entry ∷ entries) = (value_at entry.key entries ≡ None) × IsMap entries

-- Two maps have the same at each key.
abbrev pub HaveSame : List Entry → List Entry → Type 0
HaveSame xs ys = (key : Key) → value_at key xs ≡ value_at key ys
