-- The paths of several leaves at once: each as what it takes from the path before and what it adds.
use Rattle.std.specs.Prelude.{◌==◌, ℕ, suc, ◌+◌, List, [], ◌∷◌, ◌++◌, length, map, take, get_or, slice_get, Bool, true, false, if◌then◌else◌, Option, Some, None, Ok, Err}
use Rattle.ark_base.specs.declared.error.Error.TheVariants.{IncorrectInputLength, GenericError}
use Rattle.ark_base.specs.declared.error.Refusal.TheVariants.{NoIndex}
use Rattle.std.specs.declared.vec.Vec.{Vec}
use Rattle.ark_base.specs.Outcome.{Outcome, ◌>>=◌}
use Rattle.ark_paths.specs.Pair.{Digest, HashPair}
use Rattle.ark_paths.specs.Path.{Way, verdict}
use Rattle.ark_paths.specs.Rows.{digests_of}

-- a multi-proof by its numbers: for each place the digest beside the leaf's, how many first digests its path takes from
-- the path before, the digests that follow, and the leaf's index
pub record MultiWay : Type 0 where
  pub siblings : List Digest
  pub prefixes : List ℕ
  pub suffixes : List (List Digest)
  pub indexes : List ℕ

-- a multi-proof by its lists
abbrev pub listed_way : {S D Z : Type 0} → (S → Digest) → (D → Digest) → List S → List ℕ → List (Vec D Z) → List ℕ
    → MultiWay
listed_way leaf inner siblings prefixes suffixes indexes = record {
  siblings = map leaf siblings;
  prefixes = prefixes;
  suffixes = map (digests_of inner) suffixes;
  indexes = indexes;
}

-- how many digests each path has: as many as the first suffix
abbrev pub path_length : MultiWay → ℕ
path_length m = length (get_or m.suffixes 0 [])

-- the path of some parts, where all are there and make a path of this length: the first digests of the path before,
-- then the suffix
abbrev pub path_of_parts : ℕ → List Digest → ℕ → Option Digest → Option ℕ → Option (List Digest) → Option Way
path_of_parts len before index None prefix suffix = None
path_of_parts len before index (Some sibling) None suffix = None
path_of_parts len before index (Some sibling) (Some prefix) None = None
path_of_parts len before index (Some sibling) (Some prefix) (Some suffix) =
    if prefix + length suffix == len
    then Some (record { sibling = sibling; above = take prefix before ++ suffix; index = index })
    else None

-- the path of place i, where it decodes, after the digests of the path before
abbrev pub decoded_path : MultiWay → ℕ → List Digest → ℕ → Option Way
decoded_path m i before index =
    path_of_parts (path_length m) before index (slice_get m.siblings i) (slice_get m.prefixes i)
    (slice_get m.suffixes i)

-- a path, and those that follow it; none follows a place that does not decode
abbrev pub path_and_rest : Option Way → (Way → List (Option Way)) → List (Option Way)
path_and_rest None next = None ∷ []
path_and_rest (Some way) next = Some way ∷ next way

-- the paths of these indexes, from place i on
abbrev pub decoded_paths_from : MultiWay → ℕ → List Digest → List ℕ → List (Option Way)
decoded_paths_from m i before [] = []
decoded_paths_from m i before (index ∷ indexes) =
    path_and_rest (decoded_path m i before index) (λ way. decoded_paths_from m (suc i) way.above indexes)

-- the decoded paths of a multi-proof; no digests stand before the first
abbrev pub decoded_paths : MultiWay → List (Option Way)
decoded_paths m = decoded_paths_from m 0 [] m.indexes

-- what the paths say of their leaves in turn, from place i on: the first answer that is not Ok(true) decides
abbrev pub multi_verdict_from : HashPair → Digest → ℕ → List (Option Way) → List (Outcome Digest) → Outcome Bool
multi_verdict_from h root i [] leaves = Ok true
multi_verdict_from h root i (None ∷ ways) leaves = Err (IncorrectInputLength i)
multi_verdict_from h root i (Some way ∷ ways) [] = Err (IncorrectInputLength i)
multi_verdict_from h root i (Some way ∷ ways) (leaf ∷ leaves) = do
  holds ← verdict h leaf way root
  if holds then multi_verdict_from h root (suc i) ways leaves else Ok false

-- no index; else what the decoded paths say of their leaves in turn: the first answer that is not `true` decides
abbrev pub multi_verdict : HashPair → List (Outcome Digest) → MultiWay → Digest → Outcome Bool
multi_verdict h leaves m root =
    if length m.indexes == 0 then Err (GenericError NoIndex) else multi_verdict_from h root 0 (decoded_paths m) leaves
