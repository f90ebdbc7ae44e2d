-- The canonical bytes of multi-proofs: their four lists, one behind the other.
use Rattle.std.specs.Prelude.{ℕ, List, map}
use Rattle.std.specs.declared.vec.Vec.{Vec}
use Rattle.ark_base.specs.Reading.{Reading}
use Rattle.ark_base.specs.Spelling.{IsWord, word, word_at, IsCounted, counted_list, counted_list_at, BothFit, both, both_at, made_at}
use Rattle.ark_paths.specs.Pair.{Digest}
use Rattle.ark_paths.specs.MultiPath.{MultiWay}

-- a multi-proof by the canonical values of its digests
abbrev pub MultiParts : Type 0 → Type 0 → Type 0
MultiParts L U = List L × (List ℕ × (List (List U) × List ℕ))

-- the four lists of a multi-proof, by those values
abbrev pub parts_of : {A B L U Z : Type 0} → (A → L) → (B → U)
    → List A → List ℕ → List (Vec B Z) → List ℕ → MultiParts L U
parts_of leaf inner siblings prefixes suffixes indexes = (
  map leaf siblings,
  (map (λ n. n) prefixes, (map (λ suffix. map inner suffix.items) suffixes, map (λ n. n) indexes)),
)

-- multi-proofs that have a spelling
abbrev pub MultiFits : {L U : Type 0} → (L → Type 0) → (U → Type 0) → MultiParts L U → Type 0
MultiFits fits_leaf fits_inner =
    BothFit (IsCounted fits_leaf)
    (BothFit (IsCounted IsWord) (BothFit (IsCounted (IsCounted fits_inner)) (IsCounted IsWord)))

-- the four lists of a multi-proof
abbrev pub multi_path_spelling : {L U : Type 0} → (L → List ℕ) → (U → List ℕ) → MultiParts L U → List ℕ
multi_path_spelling leaf inner =
    both (counted_list leaf) (both (counted_list word) (both (counted_list (counted_list inner)) (counted_list word)))

-- how these are read
abbrev pub multi_path_at : {L U : Type 0} → (List ℕ → Reading L) → (List ℕ → Reading U)
    → List ℕ → Reading (MultiParts L U)
multi_path_at leaf_at inner_at =
    both_at (counted_list_at leaf_at)
    (both_at (counted_list_at word_at) (both_at (counted_list_at (counted_list_at inner_at)) (counted_list_at word_at)))

-- a multi-proof by its numbers, from the canonical values of its digests
abbrev pub multi_way_of : {L U : Type 0} → (L → Digest) → (U → Digest) → MultiParts L U → MultiWay
multi_way_of leaf inner parts = record {
  siblings = map leaf parts.0;
  prefixes = parts.1.0;
  suffixes = map (map inner) parts.1.1.0;
  indexes = parts.1.1.1;
}

-- the canonical bytes of a multi-proof, from its numbers
abbrev pub multi_bytes : (Digest → List ℕ) → (Digest → List ℕ) → MultiWay → List ℕ
multi_bytes leaf inner m = multi_path_spelling leaf inner (m.siblings, (m.prefixes, (m.suffixes, m.indexes)))

-- multi-proofs, read by their numbers
abbrev pub multi_way_at : {L U : Type 0} → (L → Digest) → (U → Digest) → (List ℕ → Reading L) → (List ℕ → Reading U)
    → List ℕ → Reading MultiWay
multi_way_at leaf inner leaf_at inner_at = made_at (multi_way_of leaf inner) (multi_path_at leaf_at inner_at)
