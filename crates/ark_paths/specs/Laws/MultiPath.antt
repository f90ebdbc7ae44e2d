-- The laws of the canonical bytes of multi-proofs.
use Rattle.std.proofs.Common.{◌≡◌, ℕ, ◌≤◌, List, [], ◌∷◌, length, map, refl, arith}
use Rattle.std.proofs.lemmas.List.{length-append}
use Rattle.std.specs.declared.vec.Vec.{Vec}
use Rattle.ark_base.specs.Reading.{Reading, IsCanonical}
use Rattle.ark_base.specs.Spelling.{IsWord, word, word_at, IsCounted, counted_list, counted_list_at, BothFit, both, both_at}
use Rattle.ark_base.specs.Laws.Numbers.{word_laws}
use Rattle.ark_base.specs.Laws.Lists.{counted_list_laws, counted_list_is_long}
use Rattle.ark_base.specs.Laws.Parts.{both_laws}
use Rattle.ark_paths.specs.MultiPath.{MultiWay}
use Rattle.ark_paths.specs.MultiPathBytes.{MultiParts, MultiFits, multi_path_spelling, multi_path_at, multi_way_of}
use Rattle.ark_paths.specs.Pair.{Digest}
use Rattle.ark_paths.specs.Rows.{digests_of}
use Rattle.ark_paths.specs.Laws.Path.{map-viewed}

module _ {L U : Type 0} (fits_leaf : L → Type 0) (leaf : L → List ℕ) (leaf_at : List ℕ → Reading L)
    (fits_inner : U → Type 0) (inner : U → List ℕ) (inner_at : List ℕ → Reading U) where
  pub multi_laws : IsCanonical fits_leaf leaf leaf_at → IsCanonical fits_inner inner inner_at
      → IsCanonical (MultiFits fits_leaf fits_inner) (multi_path_spelling leaf inner) (multi_path_at leaf_at inner_at)
  multi_laws leaf_laws inner_laws =
      let words = counted_list_laws IsWord word word_at word_laws in
      let suffix = counted_list_laws fits_inner inner inner_at inner_laws in
      let suffixes = counted_list_laws (IsCounted fits_inner) (counted_list inner) (counted_list_at inner_at) suffix in
      let behind = both_laws (IsCounted (IsCounted fits_inner)) (counted_list (counted_list inner))
      (counted_list_at (counted_list_at inner_at)) (IsCounted IsWord) (counted_list word) (counted_list_at word_at)
      suffixes words in
      let lists = both_laws (IsCounted IsWord) (counted_list word) (counted_list_at word_at)
      (BothFit (IsCounted (IsCounted fits_inner)) (IsCounted IsWord))
      (both (counted_list (counted_list inner)) (counted_list word))
      (both_at (counted_list_at (counted_list_at inner_at)) (counted_list_at word_at)) words behind in
      both_laws (IsCounted fits_leaf) (counted_list leaf) (counted_list_at leaf_at)
      (BothFit (IsCounted IsWord) (BothFit (IsCounted (IsCounted fits_inner)) (IsCounted IsWord)))
      (both (counted_list word) (both (counted_list (counted_list inner)) (counted_list word)))
      (both_at (counted_list_at word_at)
      (both_at (counted_list_at (counted_list_at inner_at)) (counted_list_at word_at)))
      (counted_list_laws fits_leaf leaf leaf_at leaf_laws) lists

pub multi_is_long : {L U : Type 0} (leaf : L → List ℕ) (inner : U → List ℕ) (parts : MultiParts L U)
    → 32 ≤ length (multi_path_spelling leaf inner parts)
multi_is_long leaf inner parts =
    let suffixes = parts.1.1 in
    omega (
      arith,
      length-append (counted_list leaf parts.0)
          (both (counted_list word) (both (counted_list (counted_list inner)) (counted_list word)) parts.1),
      length-append (counted_list word parts.1.0)
          (both (counted_list (counted_list inner)) (counted_list word) suffixes),
      length-append (counted_list (counted_list inner) suffixes.0) (counted_list word suffixes.1),
      counted_list_is_long leaf parts.0,
      counted_list_is_long word parts.1.0,
      counted_list_is_long (counted_list inner) suffixes.0,
      counted_list_is_long word suffixes.1,
    )

map-itself : (numbers : List ℕ) → numbers ≡ map (λ n. n) numbers
map-itself [] = refl
map-itself (n ∷ numbers) = λ i. n ∷ map-itself numbers i

rows-viewed : {B U Z : Type 0} (numbers : B → Digest) (view : B → U) (back : U → Digest)
    → ((b : B) → numbers b ≡ back (view b)) → (rows : List (Vec B Z))
    → map (digests_of numbers) rows ≡ map (map back) (map (λ row. map view row.items) rows)
rows-viewed numbers view back are [] = refl
rows-viewed numbers view back are (row ∷ rows) =
    λ i. map-viewed numbers view back are row.items i ∷ rows-viewed numbers view back are rows i

module _ {A B L U Z : Type 0} (leaf_numbers : A → Digest) (leaf_view : A → L) (leaf_back : L → Digest)
    (leaf_are : (a : A) → leaf_numbers a ≡ leaf_back (leaf_view a)) where
  -- The canonical value of a multi-proof forgets none of its numbers.
  pub multi_way_of-value : (numbers : B → Digest) (view : B → U) (back : U → Digest)
      → ((b : B) → numbers b ≡ back (view b))
      → (siblings : List A) (prefixes : List ℕ) (suffixes : List (Vec B Z)) (indexes : List ℕ)
      → ◌≡◌ {A = MultiWay} (record {
        siblings = map leaf_numbers siblings;
        prefixes = prefixes;
        suffixes = map (digests_of numbers) suffixes;
        indexes = indexes;
      }) (multi_way_of leaf_back back (
        map leaf_view siblings,
        (map (λ n. n) prefixes, (map (λ suffix. map view suffix.items) suffixes, map (λ n. n) indexes)),
      ))
  multi_way_of-value numbers view back are siblings prefixes suffixes indexes =
      λ i. record {
        siblings = map-viewed leaf_numbers leaf_view leaf_back leaf_are siblings i;
        prefixes = map-itself prefixes i;
        suffixes = rows-viewed numbers view back are suffixes i;
        indexes = map-itself indexes i;
      }
