-- The bytes of paths and of multi-proofs, by the numbers of their digests.
use Rattle.std.proofs.Common.{◌≡◌, ℕ, List, [], ◌∷◌, length, map, Ok, Err, refl, sym, ◌∙◌}
use Rattle.std.specs.List.{flat_map}
use Rattle.std.specs.declared.vec.Vec.{Vec}
use Rattle.std.proofs.lemmas.List.{length-map, map-id}
use Rattle.ark_base.specs.declared.error.SerializationError.{SerializationError}
use Rattle.ark_base.specs.Reading.{Reading}
use Rattle.ark_base.specs.Spelling.{counted_list, made_at}
use Rattle.ark_paths.specs.Laws.MultiPath.{multi_way_of-value}
use Rattle.ark_paths.specs.Laws.Path.{way_of-value}
use Rattle.ark_paths.specs.MultiPath.{MultiWay}
use Rattle.ark_paths.specs.MultiPathBytes.{MultiParts, multi_path_spelling, multi_bytes, multi_way_of, multi_path_at, multi_way_at}
use Rattle.ark_paths.specs.Pair.{Digest}
use Rattle.ark_paths.specs.Path.{Way}
use Rattle.ark_paths.specs.PathBytes.{PathParts, path_spelling, path_at, way_of, way_bytes, way_at}

-- ---- what is made of what is read

made_at-ok : {V W : Type 0} (make : V → W) (reads : List ℕ → Reading V) (bytes rest : List ℕ) (v : V) (w : W)
    → make v ≡ w → reads bytes ≡ Ok (v, rest) → made_at make reads bytes ≡ Ok (w, rest)
unfolding made_at
made_at-ok make reads bytes rest v w same read = rw (read, same) refl

made_at-err : {V W : Type 0} (make : V → W) (reads : List ℕ → Reading V) (bytes : List ℕ) (fault : SerializationError)
    → reads bytes ≡ Err fault → made_at make reads bytes ≡ Err fault
unfolding made_at
made_at-err make reads bytes fault read = rw read refl

module _ {L U : Type 0} (leaf_of : L → Digest) (inner_of : U → Digest)
    (leaf_at : List ℕ → Reading L) (inner_at : List ℕ → Reading U) (bytes : List ℕ) (fault : SerializationError) where
  pub way_at-err : path_at leaf_at inner_at bytes ≡ Err fault
      → way_at leaf_of inner_of leaf_at inner_at bytes ≡ Err fault
  way_at-err = made_at-err (way_of leaf_of inner_of) (path_at leaf_at inner_at) bytes fault

  pub multi_way_at-err : multi_path_at leaf_at inner_at bytes ≡ Err fault
      → multi_way_at leaf_of inner_of leaf_at inner_at bytes ≡ Err fault
  multi_way_at-err = made_at-err (multi_way_of leaf_of inner_of) (multi_path_at leaf_at inner_at) bytes fault

-- ---- things that are seen twice, and whose bytes are the same

module _ {A B C : Type 0} (f : B → List ℕ) (g : A → B) (k : C → List ℕ) (h : A → C)
    (same : (x : A) → f (g x) ≡ k (h x)) where
  flat_map-map : (xs : List A) → flat_map f (map g xs) ≡ flat_map k (map h xs)
  flat_map-map [] = refl
  flat_map-map (x ∷ xs) = rw (same x, flat_map-map xs) refl

  counted-map : (xs : List A) → counted_list f (map g xs) ≡ counted_list k (map h xs)
  counted-map xs =
      let long : length (map g xs) ≡ length (map h xs) = length-map xs g ∙ sym (length-map xs h) in
      rw (long, flat_map-map xs) refl

-- ---- paths

module _ {L U A B : Type 0} (leaf_view : A → L) (view : B → U) (leaf_numbers : A → Digest) (numbers : B → Digest)
    (sibling : A) (above : List B) (index : ℕ) where
  abbrev path_parts : PathParts L U
  path_parts = (leaf_view sibling, (map view above, index))

  abbrev path_numbers : Way
  path_numbers = record { sibling = leaf_numbers sibling; above = map numbers above; index = index }

  pub path_spelling-way : (leaf : L → List ℕ) (leaf_bytes : Digest → List ℕ) (inner : U → List ℕ)
      (bytes : Digest → List ℕ)
      → ((d : A) → leaf (leaf_view d) ≡ leaf_bytes (leaf_numbers d)) → ((d : B) → inner (view d) ≡ bytes (numbers d))
      → path_spelling leaf inner path_parts ≡ way_bytes leaf_bytes bytes path_numbers
  path_spelling-way leaf leaf_bytes inner bytes leaf_same same =
      rw (leaf_same sibling, counted-map inner view bytes numbers same above) refl

  pub way_at-ok : (leaf_of : L → Digest) (inner_of : U → Digest)
      → ((d : A) → leaf_numbers d ≡ leaf_of (leaf_view d)) → ((d : B) → numbers d ≡ inner_of (view d))
      → (leaf_at : List ℕ → Reading L) (inner_at : List ℕ → Reading U) (bytes rest : List ℕ)
      → path_at leaf_at inner_at bytes ≡ Ok (path_parts, rest)
      → way_at leaf_of inner_of leaf_at inner_at bytes ≡ Ok (path_numbers, rest)
  way_at-ok leaf_of inner_of leaf_same same leaf_at inner_at bytes rest =
      made_at-ok (way_of leaf_of inner_of) (path_at leaf_at inner_at) bytes rest path_parts path_numbers
      (sym (way_of-value leaf_numbers leaf_view leaf_of leaf_same numbers view inner_of same sibling above index))

-- ---- multi-proofs

module _ {L U A B Z : Type 0} (leaf_view : A → L) (view : B → U) (leaf_numbers : A → Digest) (numbers : B → Digest)
    (siblings : List A) (prefixes : List ℕ) (suffixes : List (Vec B Z)) (indexes : List ℕ) where
  abbrev multi_parts : MultiParts L U
  multi_parts = (
    map leaf_view siblings,
    (map (λ n. n) prefixes, (map (λ suffix. map view suffix.items) suffixes, map (λ n. n) indexes)),
  )

  abbrev multi_numbers : MultiWay
  multi_numbers = record {
    siblings = map leaf_numbers siblings;
    prefixes = prefixes;
    suffixes = map (λ suffix. map numbers suffix.items) suffixes;
    indexes = indexes;
  }

  pub multi_spelling-way : (leaf : L → List ℕ) (leaf_bytes : Digest → List ℕ) (inner : U → List ℕ)
      (bytes : Digest → List ℕ)
      → ((d : A) → leaf (leaf_view d) ≡ leaf_bytes (leaf_numbers d)) → ((d : B) → inner (view d) ≡ bytes (numbers d))
      → multi_path_spelling leaf inner multi_parts ≡ multi_bytes leaf_bytes bytes multi_numbers
  multi_spelling-way leaf leaf_bytes inner bytes leaf_same same =
      let beside = counted-map leaf leaf_view leaf_bytes leaf_numbers leaf_same siblings in
      let below = counted-map (counted_list inner) (λ (suffix : Vec B Z). map view suffix.items)
      (counted_list bytes) (λ (suffix : Vec B Z). map numbers suffix.items)
      (λ suffix. counted-map inner view bytes numbers same suffix.items) suffixes in
      rw (beside, below, map-id prefixes, map-id indexes) refl

  pub multi_way_at-ok : (leaf_of : L → Digest) (inner_of : U → Digest)
      → ((d : A) → leaf_numbers d ≡ leaf_of (leaf_view d)) → ((d : B) → numbers d ≡ inner_of (view d))
      → (leaf_at : List ℕ → Reading L) (inner_at : List ℕ → Reading U) (bytes rest : List ℕ)
      → multi_path_at leaf_at inner_at bytes ≡ Ok (multi_parts, rest)
      → multi_way_at leaf_of inner_of leaf_at inner_at bytes ≡ Ok (multi_numbers, rest)
  multi_way_at-ok leaf_of inner_of leaf_same same leaf_at inner_at bytes rest =
      made_at-ok (multi_way_of leaf_of inner_of) (multi_path_at leaf_at inner_at) bytes rest multi_parts multi_numbers
      (sym (multi_way_of-value leaf_numbers leaf_view leaf_of leaf_same numbers view inner_of same
      siblings prefixes suffixes indexes))
