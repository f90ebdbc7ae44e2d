-- The lines of `toy`: leaves are numbers, digests numbers below 257.
use Rattle.std.specs.Prelude.{ℕ, List, [], ◌∷◌, Option, Some, None, Ok, Err}
use Rattle.std.specs.Option.{option_map}
use Rattle.ark_base.specs.Digits.{number_of_bytes, bytes_of_number, below_at}
use Rattle.ark_base.specs.Reading.{Reading}
use Rattle.ark_paths.specs.MultiPathBytes.{multi_bytes, multi_way_at}
use Rattle.ark_paths.specs.Pair.{Digest}
use Rattle.ark_paths.specs.PathBytes.{way_bytes, way_at}
use Rattle.ark_trees.specs.Toy.{toy_number, toy_leaf, toy_pair}
use Rattle.acp_run.specs.Language.{Language}
use Rattle.acp_run.specs.Tokens.{number_of_token, some_bytes_of}

-- the two canonical bytes of a digest
abbrev pub toy_bytes : Digest → List ℕ
toy_bytes digest = bytes_of_number 2 (toy_number digest)

-- a digest that was read, where no bytes are left behind it
abbrev pub whole_digest : Reading ℕ → Option Digest
whole_digest (Ok (value, [])) = Some (value ∷ [])
whole_digest (Ok (value, byte ∷ bytes)) = None
whole_digest (Err fault) = None

abbrev pub toy_digest : Option (List ℕ) → Option Digest
toy_digest None = None
toy_digest (Some bytes) = whole_digest (below_at 257 2 bytes)

-- the digest of a number that was read
abbrev pub read_digest : ℕ → Digest
read_digest value = number_of_bytes (bytes_of_number 2 value) ∷ []

-- the language of `toy`
abbrev pub toy_language : Language
toy_language = record {
  leaf_outcome = λ token. option_map toy_leaf (number_of_token token);
  digest = λ token. toy_digest (some_bytes_of token);
  bytes = some_bytes_of;
  root_bytes = toy_bytes;
  pair_hashes = record { bottom = toy_pair; upper = toy_pair };
  path_bytes = way_bytes toy_bytes toy_bytes;
  path_reading = way_at read_digest read_digest (below_at 257 2) (below_at 257 2);
  multi_path_bytes = multi_bytes toy_bytes toy_bytes;
  multi_path_reading = multi_way_at read_digest read_digest (below_at 257 2) (below_at 257 2);
}
