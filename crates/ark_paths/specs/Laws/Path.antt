-- The laws of the canonical bytes of paths.
use Rattle.std.proofs.Common.{◌≡◌, ℕ, ◌≤◌, ◌<◌, List, [], ◌∷◌, length, map, refl, arith}
use Rattle.std.proofs.lemmas.List.{length-append}
use Rattle.ark_base.specs.Reading.{Reading, IsCanonical}
use Rattle.ark_base.specs.Spelling.{IsWord, word, word_at, IsCounted, counted_list, counted_list_at, BothFit, both, both_at}
use Rattle.ark_base.specs.Laws.Numbers.{word_laws, length-word}
use Rattle.ark_base.specs.Laws.Lists.{counted_list_laws, counted_list_is_long}
use Rattle.ark_base.specs.Laws.Parts.{both_laws}
use Rattle.ark_paths.specs.Pair.{Digest}
use Rattle.ark_paths.specs.Path.{Way}
use Rattle.ark_paths.specs.PathBytes.{PathParts, PathFits, path_spelling, path_at, way_of}

module _ {L U : Type 0} (fits_leaf : L → Type 0) (leaf : L → List ℕ) (leaf_at : List ℕ → Reading L)
    (fits_inner : U → Type 0) (inner : U → List ℕ) (inner_at : List ℕ → Reading U) where
  pub path_laws : IsCanonical fits_leaf leaf leaf_at → IsCanonical fits_inner inner inner_at
      → IsCanonical (PathFits fits_leaf fits_inner) (path_spelling leaf inner) (path_at leaf_at inner_at)
  path_laws leaf_laws inner_laws =
      let lists = counted_list_laws fits_inner inner inner_at inner_laws in
      let behind = both_laws (IsCounted fits_inner) (counted_list inner) (counted_list_at inner_at) IsWord word word_at
      lists word_laws in
      both_laws fits_leaf leaf leaf_at (BothFit (IsCounted fits_inner) IsWord) (both (counted_list inner) word)
      (both_at (counted_list_at inner_at) word_at) leaf_laws behind

pub path_is_long : {L U : Type 0} {least : ℕ} (leaf : L → List ℕ) (inner : U → List ℕ) (path : PathParts L U)
    → least ≤ length (leaf path.0) → 0 < least → 17 ≤ length (path_spelling leaf inner path)
path_is_long leaf inner path long some =
    omega (
      arith,
      long,
      some,
      length-append (leaf path.0) (both (counted_list inner) word path.1),
      length-append (counted_list inner path.1.0) (word path.1.1),
      counted_list_is_long inner path.1.0,
      length-word path.1.1,
    )

-- the numbers of things are those of their canonical values
pub map-viewed : {A V : Type 0} (numbers : A → Digest) (view : A → V) (back : V → Digest)
    → ((a : A) → numbers a ≡ back (view a))
    → (items : List A) → map numbers items ≡ map back (map view items)
map-viewed numbers view back are [] = refl
map-viewed numbers view back are (a ∷ items) = λ i. are a i ∷ map-viewed numbers view back are items i

-- The canonical value of a path forgets none of its numbers.
pub way_of-value : {A B L U : Type 0} (leaf_numbers : A → Digest) (leaf_view : A → L) (leaf_back : L → Digest)
    → ((a : A) → leaf_numbers a ≡ leaf_back (leaf_view a)) → (numbers : B → Digest) (view : B → U) (back : U → Digest)
    → ((b : B) → numbers b ≡ back (view b)) → (sibling : A) (above : List B) (index : ℕ)
    → ◌≡◌ {A = Way} (record { sibling = leaf_numbers sibling; above = map numbers above; index = index })
    (way_of leaf_back back (leaf_view sibling, (map view above, index)))
way_of-value leaf_numbers leaf_view leaf_back leaf_are numbers view back are sibling above index = λ i. record {
  sibling = leaf_are sibling i;
  above = map-viewed numbers view back are above i;
  index = index;
}
