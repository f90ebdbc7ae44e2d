-- What a configuration of the program tells.
use Rattle.std.specs.Prelude.{ℕ, List, Option}
use Rattle.ark_base.specs.Outcome.{Outcome}
use Rattle.ark_base.specs.Reading.{Reading}
use Rattle.ark_paths.specs.MultiPath.{MultiWay}
use Rattle.ark_paths.specs.Pair.{Digest, HashPair}
use Rattle.ark_paths.specs.Path.{Way}

-- what a configuration tells: leaf tokens, digest tokens, byte tokens, a root's bytes, the hash pair, paths and
-- multi-proofs as bytes
pub record Language : Type 0 where
  -- what the leaf hash answers for the leaf that a token says, if it says one
  pub leaf_outcome : List ℕ → Option (Outcome Digest)
  -- the digest that a token says, if it says one
  pub digest : List ℕ → Option Digest
  -- the bytes that a token says, if it says some
  pub bytes : List ℕ → Option (List ℕ)
  -- the token bytes of a root
  pub root_bytes : Digest → List ℕ
  -- the hashes of pairs
  pub pair_hashes : HashPair
  -- the canonical bytes of a path, and how they are read
  pub path_bytes : Way → List ℕ
  pub path_reading : List ℕ → Reading Way
  -- the canonical bytes of a multi-proof, and how they are read
  pub multi_path_bytes : MultiWay → List ℕ
  pub multi_path_reading : List ℕ → Reading MultiWay
