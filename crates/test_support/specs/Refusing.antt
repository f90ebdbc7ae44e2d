-- A pair hash that refuses.
use Rattle.acp_run.specs.Language.{Language}
use Rattle.acp_run.specs.Toy.{toy_language}
use Rattle.ark_trees.specs.Toy.{refusing_pair}

-- that of `toy`, but for the pairs
abbrev pub refusing_language : Language
refusing_language = record toy_language { pair_hashes = record { bottom = refusing_pair; upper = refusing_pair } }
