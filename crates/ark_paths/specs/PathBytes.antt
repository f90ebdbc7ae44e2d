-- The canonical bytes of paths: the digest beside the leaf's, the list of those above, the index.
use Rattle.std.specs.Prelude.{ℕ, List, map}
use Rattle.ark_base.specs.Reading.{Reading}
use Rattle.ark_base.specs.Spelling.{IsWord, word, word_at, IsCounted, counted_list, counted_list_at, BothFit, both, both_at, made_at}
use Rattle.ark_paths.specs.Pair.{Digest}
use Rattle.ark_paths.specs.Path.{Way}

-- a path by the canonical values of its digests
abbrev pub PathParts : Type 0 → Type 0 → Type 0
PathParts L U = L × (List U × ℕ)

-- paths that have a spelling
abbrev pub PathFits : {L U : Type 0} → (L → Type 0) → (U → Type 0) → PathParts L U → Type 0
PathFits fits_leaf fits_inner = BothFit fits_leaf (BothFit (IsCounted fits_inner) IsWord)

-- the sibling, the counted list of digests, the index as a word
abbrev pub path_spelling : {L U : Type 0} → (L → List ℕ) → (U → List ℕ) → PathParts L U → List ℕ
path_spelling leaf inner = both leaf (both (counted_list inner) word)

-- how these are read
abbrev pub path_at : {L U : Type 0} → (List ℕ → Reading L) → (List ℕ → Reading U) → List ℕ → Reading (PathParts L U)
path_at leaf_at inner_at = both_at leaf_at (both_at (counted_list_at inner_at) word_at)

-- a path by its numbers, from the canonical values of its digests
abbrev pub way_of : {L U : Type 0} → (L → Digest) → (U → Digest) → PathParts L U → Way
way_of leaf inner parts = record { sibling = leaf parts.0; above = map inner parts.1.0; index = parts.1.1 }

-- the canonical bytes of a path, from its numbers
abbrev pub way_bytes : (Digest → List ℕ) → (Digest → List ℕ) → Way → List ℕ
way_bytes leaf inner way = path_spelling leaf inner (way.sibling, (way.above, way.index))

-- paths, read by their numbers
abbrev pub way_at : {L U : Type 0} → (L → Digest) → (U → Digest) → (List ℕ → Reading L) → (List ℕ → Reading U)
    → List ℕ → Reading Way
way_at leaf inner leaf_at inner_at = made_at (way_of leaf inner) (path_at leaf_at inner_at)
