-- What an accepted proof says of each map with the root.
use Rattle.std.specs.Prelude.{◌≡◌, ◌≢◌, ◌⊎◌, ◌≤◌, ◌-◌, ℕ, zero, suc, List, length, drop, Option, Ok}
use Rattle.merkle_map.specs.Map.{Key, Digest, Entry, Node, MapHashes, digest_of, bit_of, side, node_below, root_of_map, key_bits, value_at}
use Rattle.merkle_map.specs.Way.{way_node}

-- the entries whose keys begin with the first bits of a key
abbrev pub along : Key → ℕ → List Entry → List Entry
along key zero entries = entries
along key (suc level) entries = side (bit_of level key) level (along key level entries)

-- At this level of a key's way, 0 for the root, the proof and the map's own tree have two different nodes with one
-- hash.
pub record KeyCollidesAt (h : MapHashes) (entries : List Entry) (key : Key) (siblings : List Digest) (end : Node)
    (level : ℕ) : Type 0 where
  pub inside : level ≤ length siblings
  pub given : Node
  pub given_is : way_node h key level (drop level siblings) end ≡ Ok given
  pub own : Node
  pub own_is : node_below h (key_bits - level) level (along key level entries) ≡ Ok own
  pub differ : given ≢ own
  pub common : Digest
  pub given_hash : digest_of h given ≡ Ok common
  pub own_hash : digest_of h own ≡ Ok common

-- A proof binds what a key has to a root: in every map with this root the key has this value, or none, or at some level
-- nodes collide.
abbrev pub BindsValue : MapHashes → Digest → Key → Option Digest → List Digest → Node → Type 0
BindsValue h root key value siblings end = (entries : List Entry) → root_of_map h entries ≡ Ok root
    → (value_at key entries ≡ value) ⊎ ((level : ℕ) × KeyCollidesAt h entries key siblings end level)
