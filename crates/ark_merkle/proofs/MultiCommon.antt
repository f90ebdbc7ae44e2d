-- What the ways of two indexes have in common, row by row.
use Rattle.std.proofs.Common.{◌≡◌, ℕ, suc, ◌+◌, ◌-◌, ◌/◌, ◌<◌, ◌≤◌, ◌^◌, Bool, true, false, List, [], ◌∷◌, ◌++◌, length, map, take, drop, get_or, refl, ap, sym, ◌∙◌, add-one, arith}
use Rattle.std.specs.Bool.{Decides}
use Rattle.std.specs.Prelude.{◌↔◌}
use Rattle.std.proofs.lemmas.List.{map-append, take_more}
use Rattle.std.proofs.lemmas.Slice.Eq.{bytes_eq-Decides}
use Rattle.ark_paths.specs.Index.{neighbour}
use Rattle.ark_paths.specs.Sharing.{shared_count, prefixes_of, suffixes_of}
use Rattle.ark_paths.specs.Pair.{Digest, digest_eq}
use Rattle.ark_paths.specs.Rows.{HoldsIndex, beside_in}
use Rattle.ark_paths.proofs.MultiShared.{shared-same, shared-other, shared-le, last_of, last_of-push, prefixes_of-push, suffixes_of-push}
use Rattle.ark_paths.proofs.OwnPaths.{length-beside_in}
use Rattle.ark_paths.proofs.PlaceLemmas.{level-fits, beside-inside}

-- the digest beside the way of an index in row k
abbrev pub beside_at : List (List Digest) → ℕ → ℕ → Digest
beside_at rows k index = get_or (get_or rows k []) (neighbour (index / 2 ^ suc k)) []

-- two ways at one place of a row
pub beside_at-place : (rows : List (List Digest)) (k before index : ℕ) → neighbour (before / 2 ^ (k + 1))
    ≡ neighbour (index / 2 ^ (k + 1)) → beside_at rows k before ≡ beside_at rows k index
beside_at-place rows k before index same = ap (λ (place : ℕ). get_or (get_or rows k []) place []) (rw add-one at same)

-- how many digests two ways have in common below row k
abbrev pub common : List (List Digest) → ℕ → ℕ → ℕ → ℕ
common rows k before index = shared_count (beside_in rows k before) (beside_in rows k index)

not_decided : (b : Bool) (P : Type 0) → Decides b P → (P → ⊥) → b ≡ false
not_decided true P d denied = absurd (denied (d.0 refl))
not_decided false P d denied = refl

module _ (rows : List (List Digest)) (before index k n above : ℕ) (level : k + above + 1 ≡ n) (some : 0 < above) where
  here : n - above ≡ suc k
  here = omega arith

  -- the digests in a row are the same
  pub common-same : common rows (n - 1) before index ≡ above - 1 + common rows (n - above) before index → beside_at rows
      k before ≡ beside_at rows k index
      → common rows (n - 1) before index ≡ above + 1 - 1 + common rows (n - (above + 1)) before index
  common-same so same =
      let next : n - (above + 1) ≡ k = omega arith in
      let step = shared-same (beside_at rows k before) (beside_at rows k index) (beside_in rows k before)
      (beside_in rows k index) ((bytes_eq-Decides (beside_at rows k before) (beside_at rows k index)).1 same) in
      so ∙ rw (here, step, next) (omega arith)

  -- they differ
  pub common-other : common rows (n - 1) before index ≡ above - 1 + common rows (n - above) before index
      → (beside_at rows k before ≡ beside_at rows k index → ⊥) → common rows (n - 1) before index ≡ above - 1
  common-other so other =
      let step = shared-other (beside_at rows k before) (beside_at rows k index) (beside_in rows k before)
      (beside_in rows k index) (not_decided (digest_eq (beside_at rows k before) (beside_at rows k index)) _
      (bytes_eq-Decides (beside_at rows k before) (beside_at rows k index)) other) in
      so ∙ rw (here, step) (omega arith)

pub common-le : (rows : List (List Digest)) (k before index : ℕ) → common rows k before index ≤ k
common-le rows k before index =
    let most = shared-le (beside_in rows k before) (beside_in rows k index) in
    omega (arith, length-beside_in rows k index)

-- ---- one index more

module _ (lists : ℕ → List Digest) (indexes : List ℕ) where
  map-take-more : (place : ℕ) → place < length indexes → map lists (take (place + 1) indexes)
      ≡ map lists (take place indexes) ++ lists (get_or indexes place 0) ∷ []
  map-take-more place below = ap (map lists) (take_more indexes place 0 below) ∙ map-append lists (take place indexes)
      (get_or indexes place 0 ∷ [])

  -- the prefix and the suffix that come with it
  pub record NextParts (place prefix : ℕ) : Type 0 where
    pub prefixes : prefixes_of [] (map lists (take (place + 1) indexes)) ≡ prefixes_of []
        (map lists (take place indexes)) ++ prefix ∷ []
    pub suffixes : suffixes_of [] (map lists (take (place + 1) indexes)) ≡ suffixes_of []
        (map lists (take place indexes)) ++ drop prefix (lists (get_or indexes place 0)) ∷ []

  next_parts : (place prefix : ℕ) → place < length indexes → prefix ≡ shared_count
      (last_of [] (map lists (take place indexes))) (lists (get_or indexes place 0)) → NextParts place prefix
  next_parts place prefix below is =
      let list = lists (get_or indexes place 0) in
      let before = map lists (take place indexes) in
      record {
        prefixes = ap (prefixes_of []) (map-take-more place below) ∙ prefixes_of-push [] list before
            ∙ ap (λ (n : ℕ). prefixes_of [] before ++ n ∷ []) (sym is);
        suffixes = ap (suffixes_of []) (map-take-more place below) ∙ suffixes_of-push [] list before
            ∙ ap (λ (n : ℕ). suffixes_of [] before ++ drop n list ∷ []) (sym is);
      }

  pub NextParts-first : (place : ℕ) → place < length indexes → place ≡ 0 → NextParts place 0
  NextParts-first place below first = next_parts place 0 below (rw first refl)

  pub NextParts-next : (place prefix : ℕ) → place < length indexes → 0 < place → prefix ≡ shared_count
      (lists (get_or indexes (place - 1) 0)) (lists (get_or indexes place 0)) → NextParts place prefix
  NextParts-next place prefix below some is =
      let before : map lists (take place indexes) ≡ map lists (take (place - 1) indexes) ++ lists
      (get_or indexes (place - 1) 0) ∷ [] = let back : place - 1 + 1 ≡ place = omega arith in rw back at
      (map-take-more (place - 1) (omega arith)) in
      let last : last_of [] (map lists (take place indexes)) ≡ lists (get_or indexes (place - 1) 0) =
      ap (last_of []) before ∙ last_of-push [] (lists (get_or indexes (place - 1) 0))
      (map lists (take (place - 1) indexes)) in
      next_parts place prefix below (is ∙ ap (λ (ds : List Digest). shared_count ds (lists (get_or indexes place 0)))
      (sym last))

-- ---- what is read

module _ (rows : List (List Digest)) (k index : ℕ) (holds : HoldsIndex rows index) (below : k + 1 < length rows) where
  pub beside-level : k + 1 < 64
  beside-level = omega (arith, level-fits rows holds.size holds.levels k index (omega arith) holds.inside holds.small)

  module _ (place : ℕ) (at : place ≡ neighbour (index / 2 ^ (k + 1))) where
    pub beside-bound : place < length (get_or rows k [])
    beside-bound = rw (at, add-one) (beside-inside rows index holds k (omega arith))

    pub beside-read : (digest : Digest) → digest ≡ get_or (get_or rows k []) place [] → beside_at rows k index ≡ digest
    beside-read digest found = rw (← rw add-one at at) (sym found)

-- two digests that are read beside two ways are the same exactly where those beside the ways are
pub beside-alike : (rows : List (List Digest)) (k before index : ℕ) → HoldsIndex rows before → HoldsIndex rows index
    → k + 1 < length rows → {there here : ℕ} → there ≡ neighbour (before / 2 ^ (k + 1))
    → here ≡ neighbour (index / 2 ^ (k + 1)) → {x y : Digest} → x ≡ get_or (get_or rows k []) there []
    → y ≡ get_or (get_or rows k []) here [] → (x ≡ y) ↔ (beside_at rows k before ≡ beside_at rows k index)
beside-alike rows k before index held holds below at_there at_here x_is y_is =
    let there = beside-read rows k before held below _ at_there _ x_is in
    let here = beside-read rows k index holds below _ at_here _ y_is in
    (λ same. there ∙ same ∙ sym here, λ same. sym there ∙ same ∙ here)
