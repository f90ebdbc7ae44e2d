-- What whoever has a root alone makes of a stranger's bytes.
use Rattle.std.specs.Prelude.{◌≡◌, ◌<◌, ℕ, ◌-◌, ◌==◌, ◌&&◌, nat_lt, Bool, Some, List, [], ◌∷◌, length, map, if◌then◌else◌, Ok, Err}
use Rattle.std.specs.Str.{bytes_eq}
use Rattle.ark_base.specs.declared.error.Error.{Error}
use Rattle.ark_base.specs.declared.error.Error.TheVariants.{IncorrectInputLength, SerializationError as OfBytes}
use Rattle.ark_base.specs.declared.error.SerializationError.TheVariants.{InvalidData}
use Rattle.ark_base.specs.Outcome.{Outcome, ◌>>=◌}
use Rattle.ark_base.specs.Reading.{Reading, reading_outcome}
use Rattle.ark_paths.specs.Bind.{StandsOrCollides}
use Rattle.ark_paths.specs.Index.{log2, is_tree_size}
use Rattle.ark_paths.specs.MultiPath.{MultiWay, path_length, decoded_paths, multi_verdict}
use Rattle.ark_paths.specs.MultiPathStrict.{strict_reading}
use Rattle.ark_paths.specs.Pair.{Digest, Hashes}
use Rattle.ark_paths.specs.Path.{Way, verdict}
use Rattle.ark_paths.specs.Root.{root}

-- nothing, where a condition holds; else a refusal
abbrev pub provided : Bool → Error → Outcome (Unit {0})
provided holds error = if holds then Ok tt else Err error

-- The refusals of a proof that was read, in their order: that of bytes behind it, that of paths with another length
-- than those of a tree of this size, that of an index that was not asked for.
abbrev pub is_fit : ℕ → List ℕ → ℕ → Bool → Outcome (Unit {0})
is_fit size behind above is_asked = do
  _ ← provided (length behind == 0) (OfBytes InvalidData)
  _ ← provided (above == log2 size - 1) (IncorrectInputLength above)
  provided is_asked (OfBytes InvalidData)

-- the path of an index in a tree of a size, as it was read, or its refusal
abbrev pub fit_path : ℕ → ℕ → Way × List ℕ → Outcome Way
fit_path size index read = do
  _ ← is_fit size read.1 (length read.0.above) ((read.0.index == index) && nat_lt index size)
  Ok read.0

-- such a path from a reading: the refusal of the size comes first, then the first fault of the bytes
abbrev pub received_path : ℕ → ℕ → Reading Way → Outcome Way
received_path size index reading = do
  _ ← provided (is_tree_size size) (IncorrectInputLength size)
  read ← reading_outcome reading
  fit_path size index read

-- what such a path says of a leaf: the refusal of the path, of the leaf's hash and of the path's pairs, else
-- whether the path gives the root
abbrev pub received_verdict : {A : Type 0} → Hashes A → Digest → ℕ → ℕ → A → Reading Way → Outcome Bool
received_verdict hashes root_given size index leaf reading = do
  way ← received_path size index reading
  verdict hashes.pair (hashes.leaf leaf) way root_given

-- The index is below the size, and in every tree of these hashes with this root and size the leaf stands at it, or
-- pairs of a path for it and of the tree collide.
abbrev pub StandsAt : {A : Type 0} → Hashes A → Digest → ℕ → ℕ → A → Way → Type 0
StandsAt hashes root_given size index leaf way =
    (index < size) × ((digests : List Digest) → length digests ≡ size → root hashes.pair digests ≡ Ok root_given
    → StandsOrCollides (record { hashes = hashes; leaves = digests }) index leaf way)

-- The bytes are those of a path that shows so.
abbrev pub ShowsLeaf : {A : Type 0} → Hashes A → Digest → ℕ → ℕ → A → Reading Way → Type 0
ShowsLeaf hashes root_given size index leaf reading =
    (way : Way) × (reading ≡ Ok (way, [])) × StandsAt hashes root_given size index leaf way

-- ---- strict multi-proofs

-- the multi-proof of some indexes in a tree of a size, as it was read, or its refusal
abbrev pub fit_multi_path : ℕ → List ℕ → MultiWay × List ℕ → Outcome MultiWay
fit_multi_path size indexes read = do
  _ ← is_fit size read.1 (path_length read.0) (bytes_eq read.0.indexes indexes)
  Ok read.0

-- such a multi-proof from a reading: the refusal of the size comes first, then the first fault of the bytes, then
-- that it is not strict
abbrev pub received_multi_path : ℕ → List ℕ → Reading MultiWay → Outcome MultiWay
received_multi_path size indexes reading = do
  _ ← provided (is_tree_size size) (IncorrectInputLength size)
  read ← reading_outcome (strict_reading reading)
  fit_multi_path size indexes read

-- what such a multi-proof says of leaves: its refusal, else what its decoded paths say
abbrev pub received_multi_verdict : {A : Type 0} → Hashes A → Digest → ℕ → List ℕ → List A → Reading MultiWay
    → Outcome Bool
received_multi_verdict hashes root_given size indexes leaves reading = do
  proof ← received_multi_path size indexes reading
  multi_verdict hashes.pair (map hashes.leaf leaves) proof root_given

-- Each leaf stands at the index of its path, or pairs collide.
abbrev pub StandInTurn : {A : Type 0} → Hashes A → Digest → ℕ → List A → List Way → Type 0
StandInTurn hashes root_given size leaves [] = Unit {0}
StandInTurn hashes root_given size [] (way ∷ ways) = ⊥
StandInTurn hashes root_given size (leaf ∷ leaves) (way ∷ ways) =
    StandsAt hashes root_given size way.index leaf way × StandInTurn hashes root_given size leaves ways

-- The bytes are those of a strict multi-proof whose paths, one for each of these indexes, show so.
pub record ShowsLeaves {A : Type 0} (hashes : Hashes A) (root_given : Digest) (size : ℕ) (indexes : List ℕ)
    (leaves : List A) (reading : Reading MultiWay) : Type 0 where
  pub proof : MultiWay
  pub read : strict_reading reading ≡ Ok (proof, [])
  pub ways : List Way
  pub decoded : decoded_paths proof ≡ map Some ways
  pub places : map (λ way. way.index) ways ≡ indexes
  pub stand : StandInTurn hashes root_given size leaves ways
