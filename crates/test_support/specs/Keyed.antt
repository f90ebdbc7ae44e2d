-- A leaf hash with a key.
use Rattle.std.specs.Prelude.{ℕ, ◌+◌, ◌%◌, [], ◌∷◌, Ok}
use Rattle.std.specs.Option.{option_map}
use Rattle.ark_base.specs.Outcome.{Outcome}
use Rattle.ark_paths.specs.Pair.{Digest}
use Rattle.acp_run.specs.Language.{Language}
use Rattle.acp_run.specs.Tokens.{number_of_token}
use Rattle.acp_run.specs.Toy.{toy_language}

-- the key and a leaf, modulo 257
abbrev pub keyed_leaf : ℕ → ℕ → Outcome Digest
keyed_leaf key leaf = Ok ((key + leaf % 257) % 257 ∷ [])

-- that of `toy`, but for the leaves
abbrev pub keyed_language : ℕ → Language
keyed_language key = record toy_language { leaf_outcome = λ token. option_map (keyed_leaf key) (number_of_token token) }
