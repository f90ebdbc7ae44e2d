-- What a read of a row, or of a digest, gives.
use Rattle.std.proofs.Common.{◌≡◌, ℕ, ◌+◌, ◌<◌, ◌≤◌, Some, None, arith, List, [], ◌∷◌, ◌++◌, append_assoc, length, take, map, get_or, refl, sym, ap, ◌∙◌}
use Rattle.std.proofs.lemmas.List.{get_or-map, length-map, map-append, take_more}
use Rattle.std.proofs.lemmas.Option.{slice_get-get_or, slice_get-map, slice_get_past}
use Rattle.std.specs.List.{slice_get}
use Rattle.std.specs.Option.{option_map}
use Rattle.std.specs.declared.vec.Vec.{Vec}
use Rattle.ark_paths.specs.Pair.{Digest}
use Rattle.ark_paths.specs.Rows.{digests_of}

-- the first of some rows is as long as it is seen
pub first-seen : {A Z : Type 0} (numbers : A → Digest) (rows : List (Vec A Z))
    → length (get_or (map (digests_of numbers) rows) 0 [])
    ≡ length (get_or (map (λ (row : Vec A Z). row.items) rows) 0 [])
first-seen numbers [] = refl
first-seen numbers (row ∷ rows) = length-map row.items numbers

-- an item as it is seen, where there is one
module _ {A B : Type 0} (view : A → B) (xs : List A) (i : ℕ) where
  pub seen_past : length xs ≤ i → slice_get (map view xs) i ≡ None
  seen_past past = slice_get_past (map view xs) i (omega (arith, past, length-map xs view))

  pub seen_at : (x : A) → i < length xs → x ≡ get_or xs i x → slice_get (map view xs) i ≡ Some (view x)
  seen_at x below is = slice_get-map view xs i ∙ ap (option_map view) (slice_get-get_or xs i x below ∙ ap Some (sym is))

-- a list that follows another behind a front, item by item
module _ {A B C : Type 0} (view : A → C) (other : B → C) (front : List C) where
  pub mapped-more : (now next : List A) (ys : List B) (k : ℕ) (x : A) (y : B) → k < length ys
      → y ≡ get_or ys k y → view x ≡ other y → next ≡ now ++ x ∷ []
      → map view now ≡ front ++ map other (take k ys) → map view next ≡ front ++ map other (take (k + 1) ys)
  mapped-more now next ys k x y below is same more so =
      ap (map view) more ∙ map-append view now (x ∷ []) ∙ ap (λ (zs : List C). zs ++ view x ∷ []) so
      ∙ append_assoc front
      (map other (take k ys)) (view x ∷ [])
      ∙ ap (λ (zs : List C). front ++ zs) (ap (λ (z : C). map other (take k ys) ++ z ∷ []) same
      ∙ sym (map-append other (take k ys) (y ∷ [])) ∙ ap (map other) (ap (λ (z : B). take k ys ++ z ∷ []) is
      ∙ sym (take_more ys k y below)))

module _ {A Z : Type 0} (numbers : A → Digest) where
  pub row_read : (rows : List (Vec A Z)) (k : ℕ) (row : Vec A Z) → k < length rows → row ≡ get_or rows k row
      → get_or (map (digests_of numbers) rows) k [] ≡ digests_of numbers row
  row_read rows k row below is = get_or-map (digests_of numbers) rows k row [] below ∙ ap (digests_of numbers) (sym is)

  pub digest_read : (row : Vec A Z) (i : ℕ) (digest : A) → i < length row.items → digest ≡ get_or row.items i digest
      → get_or (digests_of numbers row) i [] ≡ numbers digest
  digest_read row i digest below is = get_or-map numbers row.items i digest [] below ∙ ap numbers (sym is)
