-- Digests as contracts see them, and the two hashes of pairs.
use Rattle.std.specs.Prelude.{ℕ, List, Bool, if◌then◌else◌, Ok}
use Rattle.std.specs.Str.{bytes_eq}
use Rattle.ark_base.specs.Outcome.{Outcome, ◌>>=◌, IsDecided}

-- a digest by its numbers
abbrev pub Digest : Type 0
Digest = List ℕ

-- whether two digests are the same
abbrev pub digest_eq : Digest → Digest → Bool
digest_eq = bytes_eq

-- the hash of two leaf digests, and the hash of two digests above them
pub record HashPair : Type 0 where
  pub bottom : Digest → Digest → Outcome Digest
  pub upper : Digest → Digest → Outcome Digest

-- the hashes of a tree: what the hash of leaves answers, and the pair of hashes above
pub record Hashes (A : Type 0) : Type 0 where
  pub leaf : A → Outcome Digest
  pub pair : HashPair

-- No refusal of the hashes is `OutOfMemory`.
pub record AreDecided {A : Type 0} (hashes : Hashes A) : Type 0 where
  pub leaf : (x : A) → IsDecided (hashes.leaf x)
  pub bottom : (a b : Digest) → IsDecided (hashes.pair.bottom a b)
  pub upper : (a b : Digest) → IsDecided (hashes.pair.upper a b)

-- two leaf digests that are converted, left first, or the first refusal
abbrev pub converted_couple : (Digest → Outcome Digest) → Digest × Digest → Outcome (Digest × Digest)
converted_couple conversion couple = do
  x ← conversion couple.0
  y ← conversion couple.1
  Ok (x, y)

-- Both leaf digests are converted, left first, and then hashed.
abbrev pub bottom_pair :
    (Digest → Outcome Digest) → (Digest → Digest → Outcome Digest) → Digest → Digest → Outcome Digest
bottom_pair conversion evaluated a b = do
  x ← conversion a
  y ← conversion b
  evaluated x y

-- what a converter and a hash of two, at its parameters, make of pairs
abbrev pub pair_of : {P : Type 0} → (Digest → Outcome Digest) → (P → Digest → Digest → Outcome Digest)
    → (P → Digest → Digest → Outcome Digest) → P → HashPair
pair_of conversion evaluated compressed p =
    record { bottom = bottom_pair conversion (evaluated p); upper = compressed p }

-- two digests in the order that a bit says: where it is set, the first stands right
abbrev pub hash_in_order : (Digest → Digest → Outcome Digest) → Bool → Digest → Digest → Outcome Digest
hash_in_order hash is_right a b = if is_right then hash b a else hash a b
