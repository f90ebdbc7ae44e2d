-- Trees over byte strings whose digests are arrays, and their paths as bytes.
use Rattle.std.specs.Prelude.{ℕ, List, ◌++◌, map, Ok}
use Rattle.sha2.specs.Sha256.{sha256}
use Rattle.ark_base.specs.Digits.{itself, bytes_at}
use Rattle.ark_base.specs.Reading.{Reading}
use Rattle.ark_paths.specs.MultiPath.{MultiWay}
use Rattle.ark_paths.specs.MultiPathBytes.{multi_bytes, multi_way_at}
use Rattle.ark_paths.specs.Pair.{Digest, HashPair, Hashes}
use Rattle.ark_paths.specs.Path.{Way}
use Rattle.ark_paths.specs.PathBytes.{way_bytes, way_at}
use Rattle.ark_paths.specs.Tree.{HashedTree}
use Rattle.ark_trees.specs.Rfc6962.{entry_hash, node_hash}

-- how a tree is hashed: the digest of a leaf, and that of two digests, left first
pub record Hashing : Type 0 where
  pub leaf_hash : List ℕ → Digest
  pub node : Digest → Digest → Digest

-- a hashing by its two hashes
abbrev pub hashing_by : (List ℕ → Digest) → (Digest → Digest → Digest) → Hashing
hashing_by leaf_hash node = record { leaf_hash = leaf_hash; node = node }

-- SHA-256 of the leaf, and of left followed by right
abbrev pub sha256_hashing : Hashing
sha256_hashing = record { leaf_hash = sha256; node = λ left right. sha256 (left ++ right) }

-- as transparency logs hash (RFC 6962, section 2.1)
abbrev pub rfc6962_hashing : Hashing
rfc6962_hashing = record { leaf_hash = entry_hash; node = node_hash }

-- both levels of pairs are hashed alike, and nothing is refused
abbrev pub node_pair : Hashing → HashPair
node_pair h = record { bottom = λ left right. Ok (h.node left right); upper = λ left right. Ok (h.node left right) }

-- a hashing as hashes that refuse nothing
abbrev pub hashes_of : Hashing → Hashes (List ℕ)
hashes_of h = record { leaf = λ leaf. Ok (h.leaf_hash leaf); pair = node_pair h }

-- the same of leaves that are seen as byte strings
abbrev pub hashes_by : {A : Type 0} → (A → List ℕ) → Hashing → Hashes A
hashes_by bytes h = record { leaf = λ leaf. Ok (h.leaf_hash (bytes leaf)); pair = node_pair h }

-- the tree above some leaves
abbrev pub tree_over : Hashing → List (List ℕ) → HashedTree (List ℕ)
tree_over h leaves = record { hashes = hashes_of h; leaves = map h.leaf_hash leaves }

-- ---- paths of digests of 32 bytes, which stand in them with no count

-- the canonical bytes of a path whose digests are 32 bytes
abbrev pub bytes_of_path : Way → List ℕ
bytes_of_path = way_bytes itself itself

-- how they are read
abbrev pub read_path : List ℕ → Reading Way
read_path = way_at itself itself (bytes_at 32) (bytes_at 32)

-- the canonical bytes of a multi-proof whose digests are 32 bytes
abbrev pub bytes_of_multi_path : MultiWay → List ℕ
bytes_of_multi_path = multi_bytes itself itself

-- how they are read
abbrev pub read_multi_path : List ℕ → Reading MultiWay
read_multi_path = multi_way_at itself itself (bytes_at 32) (bytes_at 32)
