-- Paths from a leaf to the root, and what they say.
use Rattle.std.specs.Prelude.{ℕ, List, [], ◌∷◌, length, Bool, Ok}
use Rattle.ark_base.specs.Outcome.{Outcome, ◌>>=◌}
use Rattle.ark_paths.specs.Index.{bit_at}
use Rattle.ark_paths.specs.Pair.{Digest, HashPair, digest_eq, hash_in_order}

-- a path by its numbers: the digest beside the leaf's, those beside the way from below the root down, the leaf's index
pub record Way : Type 0 where
  pub sibling : Digest
  pub above : List Digest
  pub index : ℕ

-- What the digests beside the way make of the lowest one on it. The first of them stands below the root: it is hashed
-- with what the rest makes, in the order that the index's bit of their level says.
abbrev pub climb : (Digest → Digest → Outcome Digest) → ℕ → List Digest → Digest → Outcome Digest
climb hash index [] lowest = Ok lowest
climb hash index (first ∷ rest) lowest = do
  below ← climb hash index rest lowest
  hash_in_order hash (bit_at index (length (first ∷ rest))) below first

-- the top of a path: what it gives for a leaf digest, which bit 0 of the index orders with its sibling
abbrev pub path_root : HashPair → Way → Digest → Outcome Digest
path_root h way digest = do
  lowest ← hash_in_order h.bottom (bit_at way.index 0) digest way.sibling
  climb h.upper way.index way.above lowest

-- the refusal of the leaf's hash, else that of the path, else whether the path gives the root
abbrev pub verdict : HashPair → Outcome Digest → Way → Digest → Outcome Bool
verdict h leaf way root = do
  digest ← leaf
  given ← path_root h way digest
  Ok (digest_eq given root)
