-- The way from a proof's end up to the root.
use Rattle.std.specs.Prelude.{ℕ, suc, nat_lt, Bool, true, false, if◌then◌else◌, List, [], ◌∷◌, length, Option, Some, None, Ok}
use Rattle.std.specs.Str.{bytes_eq}
use Rattle.ark_base.specs.Outcome.{Outcome, ◌>>=◌}
use Rattle.merkle_map.specs.Map.{Key, Digest, Node, Nothing, Leaf, Pair, MapHashes, digest_of, bit_of, leaf_of, key_bits}

-- a pair of two digests, of which the first stands right where the bit is set
abbrev pub pair_on : Bool → Digest → Digest → Node
pair_on is_right own beside = if is_right then Pair beside own else Pair own beside

-- The node that a proof has at a level of a key's way: its end, or the pair of what stands below and the first digest,
-- which stands beside it.
abbrev pub way_node : MapHashes → Key → ℕ → List Digest → Node → Outcome Node
way_node h key level [] end = Ok end
way_node h key level (beside ∷ rest) end = do
  below ← way_node h key (suc level) rest end
  own ← digest_of h below
  Ok (pair_on (bit_of level key) own beside)

-- the root that a proof leads to
abbrev pub way_root : MapHashes → Key → List Digest → Node → Outcome Digest
way_root h key siblings end = do
  top ← way_node h key 0 siblings end
  digest_of h top

-- whether a node is the end of a way
abbrev pub is_end : Node → Bool
is_end Nothing = true
is_end (Leaf entry) = true
is_end (Pair left right) = false

-- the value that the end of a key's way has for the key
abbrev pub value_in : Key → Node → Option Digest
value_in key Nothing = None
value_in key (Leaf entry) = if bytes_eq entry.key key then Some entry.value else None
value_in key (Pair left right) = None

-- ---- what a check answers

-- the digest of a level of the way, from the digest of the end
abbrev pub climb_key : MapHashes → Key → ℕ → List Digest → Outcome Digest → Outcome Digest
climb_key h key level [] lowest = lowest
climb_key h key level (beside ∷ rest) lowest = do
  own ← climb_key h key (suc level) rest lowest
  digest_of h (pair_on (bit_of level key) own beside)

-- whether digests lead from the digest of an end to a root, or the first refusal
abbrev pub verdict_from : MapHashes → Digest → Key → List Digest → Digest → Outcome Bool
verdict_from h root key siblings own = do
  top ← climb_key h key 0 siblings (Ok own)
  Ok (bytes_eq top root)

-- whether a proof, of no more digests than a key has bits, leads from an end to a root; the first refusal is that of
-- the end's hash
abbrev pub way_verdict : MapHashes → Digest → Key → List Digest → Node → Outcome Bool
way_verdict h root key siblings end = if nat_lt key_bits (length siblings) then Ok false else
    (digest_of h end >>= verdict_from h root key siblings)

-- the same of an entry of another key at the end: the key's own entry does not show that the key has none
abbrev pub other_verdict : MapHashes → Digest → Key → List Digest → Key → Digest → Outcome Bool
other_verdict h root key siblings other_key other_value = if bytes_eq other_key key then Ok false else
    way_verdict h root key siblings (leaf_of other_key other_value)
