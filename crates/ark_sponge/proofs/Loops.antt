-- One step of loops over rows, at elements that f reads as numbers.
use Rattle.std.proofs.Common.{◌≡◌, ℕ, ◌+◌, ◌<◌, ◌≤◌, List, [], ◌∷◌, ◌++◌, length, get_or, set, take, drop, ◌-◌, map, sym, ◌∙◌, ap, ap₂, arith}
use Rattle.std.proofs.lemmas.List.{length-map, get_or-map, map-append, take_more, take_more_set, take_more_same, take_all, take_rest, drop-map}
use Rattle.ark_sponge.proofs.Rows.{read}

module _ {F : Type 0} (f : F → ℕ) where
  -- one image more
  pub image-more : (g : ℕ → ℕ) (row out : List F) (i : ℕ) (x r : F) → i < length row → i < length out
      → x ≡ get_or row i x → f r ≡ g (f x) → map f (take i out) ≡ take i (map g (map f row))
      → map f (take (i + 1) (set out i r)) ≡ take (i + 1) (map g (map f row))
  image-more g row out i x r within in_out is_x is_r so_far =
      let numbers = map f row in
      let in_numbers : i < length numbers = rw length-map within in
      let in_all : i < length (map g numbers) = rw length-map in_numbers in
      let image : f r ≡ get_or (map g numbers) i 0 =
      is_r ∙ ap g (read f row i x within is_x) ∙ sym (get_or-map g numbers i 0 0 in_numbers) in
      ap (map f) (take_more_set out i r in_out) ∙ map-append f (take i out) (r ∷ [])
      ∙ ap₂ (λ ts n. ts ++ n ∷ []) so_far image ∙ sym (take_more (map g numbers) i 0 in_all)

  pub image-all : (g : ℕ → ℕ) (row out : List F) (i : ℕ) → length row ≤ i → length out ≤ i
      → map f (take i out) ≡ take i (map g (map f row)) → map f out ≡ map g (map f row)
  image-all g row out i all all_out whole =
      let long : length (map g (map f row)) ≤ i = rw (length-map, length-map) all in
      ap (map f) (sym (take_all i out all_out)) ∙ whole ∙ take_all i (map g (map f row)) long

  -- the numbers of the row at i
  pub row_at : {Row : Type 0} (items : Row → List F) (rows : List Row) (i : ℕ) (v : Row) → i < length rows
      → v ≡ get_or rows i v → map f (items v) ≡ get_or (map (λ w. map f (items w)) rows) i []
  row_at {Row} items rows i v within is =
      let g = λ (w : Row). map f (items w) in
      ap g is ∙ sym (get_or-map g rows i v [] within)

  -- two lists whose elements before i are the same
  pub same-more : (xs ys : List F) (i : ℕ) (x y : F) → i < length xs → length xs ≡ length ys → x ≡ get_or xs i x
      → y ≡ get_or ys i y → f x ≡ f y → take i (map f xs) ≡ take i (map f ys)
      → take (i + 1) (map f xs) ≡ take (i + 1) (map f ys)
  same-more xs ys i x y within long is_x is_y same so_far =
      let in_ys : i < length ys = omega (arith, within, long) in
      take_more_same (map f xs) (map f ys) i 0 (rw length-map within) (rw length-map in_ys) so_far
      (sym (read f xs i x within is_x) ∙ same ∙ read f ys i y in_ys is_y)

  pub rows_same-more : {Row : Type 0} (items : Row → List F) (xs ys : List Row) (i : ℕ) (x y : Row) → i < length xs
      → length xs ≡ length ys → x ≡ get_or xs i x → y ≡ get_or ys i y → map f (items x) ≡ map f (items y)
      → take i (map (λ w. map f (items w)) xs) ≡ take i (map (λ w. map f (items w)) ys)
      → take (i + 1) (map (λ w. map f (items w)) xs) ≡ take (i + 1) (map (λ w. map f (items w)) ys)
  rows_same-more {Row} items xs ys i x y within long is_x is_y same so_far =
      let g = λ (w : Row). map f (items w) in
      let in_ys : i < length ys = omega (arith, within, long) in
      take_more_same (map g xs) (map g ys) i [] (rw length-map within) (rw length-map in_ys) so_far
      (sym (row_at items xs i x within is_x) ∙ same ∙ row_at items ys i y in_ys is_y)

  -- a row more of those behind the first, with a 0 before it
  pub moved-more : {Row : Type 0} (items : Row → List F) (rows : List Row) (i : ℕ) (v : Row) (row : List ℕ)
      (moved : List (List ℕ)) → i < length (take (length rows - 1) (drop 1 rows))
      → v ≡ get_or (take (length rows - 1) (drop 1 rows)) i v → row ≡ 0 ∷ map f (items v)
      → moved ≡ take i (map (λ r. 0 ∷ r) (drop 1 (map (λ w. map f (items w)) rows)))
      → moved ++ row ∷ [] ≡ take (i + 1) (map (λ r. 0 ∷ r) (drop 1 (map (λ w. map f (items w)) rows)))
  moved-more {Row} items rows i v row moved within is_v is_row so_far =
      let g = λ (w : Row). map f (items w) in
      let behind = λ (r : List ℕ). 0 ∷ r in
      let rest = drop 1 rows in
      let all = map behind (drop 1 (map g rows)) in
      let taken : take (length rows - 1) rest ≡ rest = take_rest rows 1 in
      let in_rest : i < length rest = omega (arith, within, ap length taken) in
      let is_rest : v ≡ get_or rest i v = is_v ∙ ap (λ t. get_or t i v) taken in
      let same : drop 1 (map g rows) ≡ map g rest = drop-map g 1 rows in
      let in_numbers : i < length (map g rest) = rw length-map in_rest in
      let in_all : i < length all = omega (
        arith,
        in_numbers,
        ap length same,
        length-map (drop 1 (map g rows)) behind,
      ) in
      let one : row ≡ get_or all i [] =
      is_row ∙ ap behind (row_at items rest i v in_rest is_rest)
      ∙ sym (get_or-map behind (map g rest) i [] [] in_numbers)
      ∙ ap (λ t. get_or (map behind t) i []) (sym same) in
      ap₂ (λ ts r. ts ++ r ∷ []) so_far one ∙ sym (take_more all i [] in_all)

  -- the first of some elements, and the others
  pub split_head : (row : List F) (x : F) → 0 < length row → x ≡ get_or row 0 x → map f row ≡ f x ∷ drop 1 (map f row)
  split_head [] x some is = absurd (omega (arith, some))
  split_head (y ∷ row) x some is = ap (λ n. n ∷ map f row) (sym (ap f is))

  pub head_none : (row : List F) (z : F) → 0 < length row → f z ≡ 0 → map f (set row 0 z) ≡ 0 ∷ drop 1 (map f row)
  head_none [] z some none = absurd (omega (arith, some))
  head_none (y ∷ row) z some none = ap (λ n. n ∷ map f row) none

-- the image of the first of a list, and the images of the slice behind it
pub split_slice : {X Y : Type 0} (g : X → Y) (xs : List X) (x : X) → 0 < length xs → x ≡ get_or xs 0 x
    → map g xs ≡ g x ∷ map g (take (length xs - 1) (drop 1 xs))
split_slice g [] x some is = absurd (omega (arith, some))
split_slice g (y ∷ xs) x some is =
    ap₂ (λ z zs. g z ∷ map g zs) (sym is) (sym (take_all (length (y ∷ xs) - 1) xs (omega arith)))
