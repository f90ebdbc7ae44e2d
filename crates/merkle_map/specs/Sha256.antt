-- The hashes of a map over SHA-256: each node has its own bytes.
use Rattle.std.specs.Prelude.{◌≡◌, ℕ, List, [], ◌∷◌, ◌++◌, length, Ok}
use Rattle.sha2.specs.Sha256.{sha256}
use Rattle.merkle_map.specs.Map.{Node, Nothing, Leaf, Pair, MapHashes}

-- The bytes of a node: of nothing none; of an entry 0, the key and the value; of two digests 1, the left and the right
-- one.
abbrev pub node_bytes : Node → List ℕ
node_bytes Nothing = []
node_bytes (Leaf entry) = 0 ∷ (entry.key ++ entry.value)
node_bytes (Pair left right) = 1 ∷ (left ++ right)

-- SHA-256 of a node's bytes
abbrev pub sha256_map : MapHashes
sha256_map = record {
  nothing = sha256 [];
  leaf = λ key value. Ok (sha256 (0 ∷ (key ++ value)));
  pair = λ left right. Ok (sha256 (1 ∷ (left ++ right)));
}

-- The node's parts have 32 bytes.
abbrev pub HasPartsOf32 : Node → Type 0
HasPartsOf32 Nothing = Unit {0}
HasPartsOf32 (Leaf entry) = (length entry.key ≡ 32) × (length entry.value ≡ 32)
HasPartsOf32 (Pair left right) = (length left ≡ 32) × (length right ≡ 32)
