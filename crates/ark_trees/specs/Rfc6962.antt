-- The hashes of transparency logs (RFC 6962, section 2.1).
use Rattle.std.specs.Prelude.{ℕ, zero, suc, ◌^◌, List, [], ◌∷◌, ◌++◌, take, drop, get_or, Ok}
use Rattle.sha2.specs.Sha256.{sha256}
use Rattle.ark_base.specs.Outcome.{Outcome}
use Rattle.ark_paths.specs.Pair.{Hashes}

-- the hash of an entry: of a zero byte and its bytes
abbrev pub entry_hash : List ℕ → List ℕ
entry_hash entry = sha256 (0 ∷ entry)

-- the hash of a node: of a one byte and the hashes below it, left first
abbrev pub node_hash : List ℕ → List ℕ → List ℕ
node_hash left right = sha256 (1 ∷ left ++ right)

-- the same as a hash that refuses nothing
abbrev pub node_of : List ℕ → List ℕ → Outcome (List ℕ)
node_of left right = Ok (node_hash left right)

-- the hashes of a log: of entries, seen as their bytes, and of nodes, on every level alike
abbrev pub log_hashes : {A : Type 0} → (A → List ℕ) → Hashes A
log_hashes bytes = record {
  leaf = λ entry. Ok (entry_hash (bytes entry));
  pair = record { bottom = node_of; upper = node_of };
}

-- the Merkle tree hash of RFC 6962 of a power of two of entries: of one its hash, else the node over those of the
-- halves
abbrev pub tree_hash_of_entries : ℕ → List (List ℕ) → List ℕ
tree_hash_of_entries zero entries = entry_hash (get_or entries 0 [])
tree_hash_of_entries (suc m) entries =
    node_hash (tree_hash_of_entries m (take (2 ^ m) entries)) (tree_hash_of_entries m (drop (2 ^ m) entries))
