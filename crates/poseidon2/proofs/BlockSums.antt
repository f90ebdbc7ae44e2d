-- The layer of blocks by sums is the product with the block circulant.
use Rattle.std.proofs.Common.{◌≡◌, ℕ, zero, suc, ◌+◌, ◌*◌, ◌%◌, ◌<◌, ◌≤◌, List, [], ◌∷◌, ◌++◌, length, get_or, set, drop, map, refl, sym, ◌∙◌, ap, arith}
use Rattle.std.proofs.Math.Nat.{mod-mod}
use Rattle.std.proofs.lemmas.List.{length-map, map-set}
use Rattle.ark_groups.specs.Field.{dot_product}
use Rattle.ark_sponge.specs.Permutation.{matrix_product}
use Rattle.ark_sponge.proofs.Products.{same_sum}
use Rattle.poseidon2.specs.Matrices.{repeated_row, block_row, rows_of_blocks, block_circulant}
use Rattle.poseidon2.specs.Blocks.{front_blocks, row_times, sum_at, column}

-- ---- loops over blocks

-- a place behind four numbers
abbrev past : ℕ → ℕ
past n = suc (suc (suc (suc n)))

-- four numbers written from a place on
abbrev pub set_four : List ℕ → ℕ → ℕ → ℕ → ℕ → ℕ → List ℕ
set_four xs at y0 y1 y2 y3 = set (set (set (set xs at y0) (at + 1) y1) (at + 2) y2) (at + 3) y3

pub map-set_four : {F : Type 0} (f : F → ℕ) (s : List F) (at : ℕ) (y0 y1 y2 y3 : F)
    → map f (set (set (set (set s at y0) (at + 1) y1) (at + 2) y2) (at + 3) y3)
    ≡ set_four (map f s) at (f y0) (f y1) (f y2) (f y3)
map-set_four f s at y0 y1 y2 y3 =
    map-set f (set (set (set s at y0) (at + 1) y1) (at + 2) y2) (at + 3) y3
    ∙ ap (λ t. set t (at + 3) (f y3)) (map-set f (set (set s at y0) (at + 1) y1) (at + 2) y2
    ∙ ap (λ t. set t (at + 2) (f y2)) (map-set f (set s at y0) (at + 1) y1
    ∙ ap (λ t. set t (at + 1) (f y1)) (map-set f s at y0)))

get_or-past : (a b c d n m : ℕ) (t : List ℕ) → n ≡ past m → get_or (a ∷ b ∷ c ∷ d ∷ t) n 0 ≡ get_or t m 0
get_or-past a b c d n m t e = ap (λ k. get_or (a ∷ b ∷ c ∷ d ∷ t) k 0) e

-- the blocks behind the first n are as they were
pub front_blocks-rest : (g : ℕ → ℕ → ℕ → ℕ → ℕ → ℕ) (n k : ℕ) (xs : List ℕ) → 4 * n ≤ length xs
    → get_or (front_blocks g n xs) (4 * n + k) 0 ≡ get_or xs (4 * n + k) 0
front_blocks-rest g zero k xs h = refl
front_blocks-rest g (suc n) k [] h = absurd (omega (arith, h))
front_blocks-rest g (suc n) k (a ∷ []) h = absurd (omega (arith, h))
front_blocks-rest g (suc n) k (a ∷ b ∷ []) h = absurd (omega (arith, h))
front_blocks-rest g (suc n) k (a ∷ b ∷ c ∷ []) h = absurd (omega (arith, h))
front_blocks-rest g (suc n) k (a ∷ b ∷ c ∷ d ∷ xs) h =
    let e : 4 * suc n + k ≡ past (4 * n + k) = omega arith in
    get_or-past _ _ _ _ _ _ (front_blocks g n xs) e ∙ front_blocks-rest g n k xs (omega (arith, h))
    ∙ sym (get_or-past a b c d _ _ xs e)

-- what g gives for the four numbers of xs from a place on, written there in t
abbrev turned_at : (ℕ → ℕ → ℕ → ℕ → ℕ → ℕ) → List ℕ → List ℕ → ℕ → List ℕ
turned_at g xs t at =
    let image = λ (c : ℕ).
    g c (get_or xs at 0) (get_or xs (at + 1) 0) (get_or xs (at + 2) 0) (get_or xs (at + 3) 0) in
    set_four t at (image 0) (image 1) (image 2) (image 3)

front_blocks-step : (g : ℕ → ℕ → ℕ → ℕ → ℕ → ℕ) (n : ℕ) (xs : List ℕ) → 4 * n + 3 < length xs
    → turned_at g xs (front_blocks g n xs) (4 * n) ≡ front_blocks g (suc n) xs
front_blocks-step g n [] h = absurd (omega (arith, h))
front_blocks-step g n (a ∷ []) h = absurd (omega (arith, h))
front_blocks-step g n (a ∷ b ∷ []) h = absurd (omega (arith, h))
front_blocks-step g n (a ∷ b ∷ c ∷ []) h = absurd (omega (arith, h))
front_blocks-step g zero (a ∷ b ∷ c ∷ d ∷ xs) h = refl
front_blocks-step g (suc n) (a ∷ b ∷ c ∷ d ∷ xs) h =
    let front = λ (t : List ℕ). g 0 a b c d ∷ g 1 a b c d ∷ g 2 a b c d ∷ g 3 a b c d ∷ t in
    let at0 : 4 * suc n ≡ past (4 * n) = omega arith in
    let at1 : 4 * suc n + 1 ≡ past (4 * n + 1) = omega arith in
    let at2 : 4 * suc n + 2 ≡ past (4 * n + 2) = omega arith in
    let at3 : 4 * suc n + 3 ≡ past (4 * n + 3) = omega arith in
    rw (at1, at2, at3, at0) (ap front (front_blocks-step g n xs (omega (arith, h))))

-- one block more: what g gives for the numbers of block n is written in their place
pub block-more : (g : ℕ → ℕ → ℕ → ℕ → ℕ → ℕ) (n : ℕ) (xs : List ℕ) → 4 * n + 3 < length xs
    → turned_at g (front_blocks g n xs) (front_blocks g n xs) (4 * n) ≡ front_blocks g (n + 1) xs
block-more g n xs h =
    let fits : 4 * n ≤ length xs = omega (arith, h) in
    let front = front_blocks g n xs in
    let read = λ (k : ℕ). front_blocks-rest g n k xs fits in
    let none : 4 * n ≡ 4 * n + 0 = omega arith in
    let read0 : get_or front (4 * n) 0 ≡ get_or xs (4 * n) 0 =
    ap (λ m. get_or front m 0) none ∙ read 0 ∙ sym (ap (λ m. get_or xs m 0) none) in
    let more : suc n ≡ n + 1 = omega arith in
    let step : turned_at g xs front (4 * n) ≡ front_blocks g (n + 1) xs =
    front_blocks-step g n xs h ∙ ap (λ m. front_blocks g m xs) more in
    rw (read0, read 1, read 2, read 3) step

-- the sum over one block more
column-step : (c n : ℕ) (xs : List ℕ) → 4 * n ≤ length xs
    → column c n xs + get_or xs (4 * n + c) 0 ≡ column c (suc n) xs
column-step c zero xs h =
    let e : 4 * 0 + c ≡ c = omega arith in
    let same : get_or xs (4 * 0 + c) 0 ≡ get_or xs c 0 = ap (λ m. get_or xs m 0) e in
    omega (arith, same)
column-step c (suc n) [] h = absurd (omega (arith, h))
column-step c (suc n) (w ∷ []) h = absurd (omega (arith, h))
column-step c (suc n) (w ∷ x ∷ []) h = absurd (omega (arith, h))
column-step c (suc n) (w ∷ x ∷ y ∷ []) h = absurd (omega (arith, h))
column-step c (suc n) (w ∷ x ∷ y ∷ z ∷ xs) h =
    let e : 4 * suc n + c ≡ past (4 * n + c) = omega arith in
    let same = get_or-past w x y z _ _ xs e in
    let rest = column-step c n xs (omega (arith, h)) in
    let one = get_or (w ∷ x ∷ y ∷ z ∷ xs) c 0 in
    let old : column c (suc n) (w ∷ x ∷ y ∷ z ∷ xs) ≡ one + column c n xs = refl in
    let new : column c (suc (suc n)) (w ∷ x ∷ y ∷ z ∷ xs) ≡ one + column c (suc n) xs = refl in
    omega (arith, same, rest, old, new)

-- the same modulo p
pub column-more : (p c n : ℕ) (xs : List ℕ) → 4 * n ≤ length xs
    → (column c n xs % p + get_or xs (4 * n + c) 0) % p ≡ column c (n + 1) xs % p
column-more p c n xs h =
    let more : suc n ≡ n + 1 = omega arith in
    let all = column c n xs in
    let x = get_or xs (4 * n + c) 0 in
    same_sum p (all % p) all x x (mod-mod all p) refl
    ∙ ap (λ m. m % p) (column-step c n xs h ∙ ap (λ m. column c m xs) more)

-- ---- blocks, and the block circulant

dot-append : (row r xs : List ℕ) → dot_product (row ++ r) xs ≡ dot_product row xs + dot_product r (drop (length row) xs)
dot-append [] r xs = omega arith
dot-append (m ∷ row) [] [] = dot-none (row ++ [])
  where
    dot-none : (t : List ℕ) → dot_product (m ∷ t) [] ≡ 0 + 0
    dot-none t = refl
dot-append (m ∷ row) (k ∷ r) [] = refl
dot-append (m ∷ row) r (x ∷ xs) =
    let rest = dot-append row r xs in
    omega (arith, rest)

dot-twice : (row xs : List ℕ) → dot_product (map (λ m. 2 * m) row) xs ≡ dot_product row xs + dot_product row xs
dot-twice [] xs = refl
dot-twice (m ∷ row) [] = refl
dot-twice (m ∷ row) (x ∷ xs) =
    let rest = dot-twice row xs in
    let one : 2 * m * x ≡ m * x + m * x = omega arith in
    omega (arith, rest, one)

-- the row times each of k blocks, added
abbrev dots : List ℕ → ℕ → List ℕ → ℕ
dots row zero xs = 0
dots row (suc k) xs = dot_product row xs + dots row k (drop 4 xs)

-- what stands behind n blocks
abbrev behind : ℕ → List ℕ → List ℕ
behind zero xs = xs
behind (suc n) xs = behind n (drop 4 xs)

behind-suc : (n : ℕ) (xs : List ℕ) → behind (suc n) xs ≡ drop 4 (behind n xs)
behind-suc zero xs = refl
behind-suc (suc n) xs = behind-suc n (drop 4 xs)

-- a row of four before others
dot-first : (row r xs : List ℕ) → length row ≡ 4
    → dot_product (row ++ r) xs ≡ dot_product row xs + dot_product r (drop 4 xs)
dot-first row r xs four =
    dot-append row r xs ∙ ap (λ m. dot_product row xs + dot_product r (drop m xs)) four

dot-repeated : (row : List ℕ) (k : ℕ) (xs : List ℕ) → length row ≡ 4
    → dot_product (repeated_row k row) xs ≡ dots row k xs
dot-repeated row zero xs four = refl
dot-repeated row (suc k) xs four =
    dot-first row (repeated_row k row) xs four
    ∙ ap (λ n. dot_product row xs + n) (dot-repeated row k (drop 4 xs) four)

dot-block_row : (row : List ℕ) (k b : ℕ) (xs : List ℕ) → length row ≡ 4 → b < k
    → dot_product (block_row k b row) xs ≡ dots row k xs + dot_product row (behind b xs)
dot-block_row row zero b xs four within = absurd (omega (arith, within))
dot-block_row row (suc k) zero xs four within =
    let twice = map (λ m. 2 * m) row in
    let long : length twice ≡ 4 = length-map row (λ m. 2 * m) ∙ four in
    let first = dot-first twice (repeated_row k row) xs long in
    let both = dot-twice row xs in
    let rest = dot-repeated row k (drop 4 xs) four in
    omega (arith, first, both, rest)
dot-block_row row (suc k) (suc b) xs four within =
    let first = dot-first row (block_row k b row) xs four in
    let rest = dot-block_row row k b (drop 4 xs) four (omega (arith, within)) in
    omega (arith, first, rest)

-- what the block circulant makes of n blocks, where the rows' sums over all blocks are t
abbrev circulated : ℕ → (ℕ → List ℕ) → (ℕ → ℕ) → ℕ → List ℕ → List ℕ
circulated p row t zero ys = []
circulated p row t (suc n) ys =
    let at = λ (c : ℕ). (t c + dot_product (row c) ys) % p in
    at 0 ∷ at 1 ∷ at 2 ∷ at 3 ∷ circulated p row t n (drop 4 ys)

-- four equal numbers before equal lists
four-same : (u v : ℕ → ℕ) (s t : List ℕ) → ((c : ℕ) → c < 4 → u c ≡ v c) → s ≡ t
    → u 0 ∷ u 1 ∷ u 2 ∷ u 3 ∷ s ≡ v 0 ∷ v 1 ∷ v 2 ∷ v 3 ∷ t
four-same u v s t each e =
    let same0 = each 0 (omega arith) in
    let same1 = each 1 (omega arith) in
    let same2 = each 2 (omega arith) in
    let same3 = each 3 (omega arith) in
    rw (same0, same1, same2, same3, e) refl

product-rows_of_blocks : (p : ℕ) (row : ℕ → List ℕ) (k b n : ℕ) (xs : List ℕ) → ((c : ℕ) → length (row c) ≡ 4)
    → b + n ≡ k
    → matrix_product p (rows_of_blocks row k b n) xs ≡ circulated p row (λ c. dots (row c) k xs) n (behind b xs)
product-rows_of_blocks p row k b zero xs four all = refl
product-rows_of_blocks p row k b (suc n) xs four all =
    let left = λ (c : ℕ). dot_product (block_row k b (row c)) xs % p in
    let right = λ (c : ℕ). (dots (row c) k xs + dot_product (row c) (behind b xs)) % p in
    let one : (c : ℕ) → c < 4 → left c ≡ right c =
    λ c h. ap (λ m. m % p) (dot-block_row (row c) k b xs (four c) (omega (arith, all))) in
    let rest : matrix_product p (rows_of_blocks row k (suc b) n) xs
    ≡ circulated p row (λ c. dots (row c) k xs) n (drop 4 (behind b xs)) =
    product-rows_of_blocks p row k (suc b) n xs four (omega (arith, all))
    ∙ ap (circulated p row (λ c. dots (row c) k xs) n) (behind-suc b xs) in
    four-same left right _ _ one rest

-- a row of four takes no more than four numbers
dot-four : (row : List ℕ) (a b c d : ℕ) (xs : List ℕ) → length row ≡ 4
    → dot_product row (a ∷ b ∷ c ∷ d ∷ []) ≡ dot_product row (a ∷ b ∷ c ∷ d ∷ xs)
dot-four [] a b c d xs four = refl
dot-four (m ∷ []) a b c d xs four = refl
dot-four (m ∷ n ∷ []) a b c d xs four = refl
dot-four (m ∷ n ∷ o ∷ []) a b c d xs four = refl
dot-four (m ∷ n ∷ o ∷ q ∷ []) a b c d xs four = refl
dot-four (m ∷ n ∷ o ∷ q ∷ r ∷ row) a b c d xs four = absurd (omega (arith, four))

-- the sums of n blocks, place by place, added to each of them
abbrev added_columns : ℕ → ℕ → List ℕ → List ℕ
added_columns p n xs =
    let all = λ (c : ℕ). column c n xs % p in
    front_blocks (sum_at p (all 0) (all 1) (all 2) (all 3)) n xs

-- the sums at the four places of the blocks' images are the rows' sums over all blocks
module _ (p : ℕ) (row : ℕ → List ℕ) (four : (c : ℕ) → length (row c) ≡ 4) where
  place : (c : ℕ) (a b d e : ℕ) (xs : List ℕ) (n : ℕ) → c < 4
      → get_or (front_blocks (row_times p row) (suc n) (a ∷ b ∷ d ∷ e ∷ xs)) c 0
      ≡ dot_product (row c) (a ∷ b ∷ d ∷ e ∷ xs) % p
  place zero a b d e xs n h = ap (λ m. m % p) (dot-four (row 0) a b d e xs (four 0))
  place (suc zero) a b d e xs n h = ap (λ m. m % p) (dot-four (row 1) a b d e xs (four 1))
  place (suc (suc zero)) a b d e xs n h = ap (λ m. m % p) (dot-four (row 2) a b d e xs (four 2))
  place (suc (suc (suc zero))) a b d e xs n h = ap (λ m. m % p) (dot-four (row 3) a b d e xs (four 3))
  place (suc (suc (suc (suc c)))) a b d e xs n h = absurd (omega (arith, h))

  column-images : (c n : ℕ) (xs : List ℕ) → c < 4 → 4 * n ≤ length xs
      → column c n (front_blocks (row_times p row) n xs) % p ≡ dots (row c) n xs % p
  column-images c zero xs h fits = refl
  column-images c (suc n) [] h fits = absurd (omega (arith, fits))
  column-images c (suc n) (w ∷ []) h fits = absurd (omega (arith, fits))
  column-images c (suc n) (w ∷ x ∷ []) h fits = absurd (omega (arith, fits))
  column-images c (suc n) (w ∷ x ∷ y ∷ []) h fits = absurd (omega (arith, fits))
  column-images c (suc n) (w ∷ x ∷ y ∷ z ∷ xs) h fits =
      let all = w ∷ x ∷ y ∷ z ∷ xs in
      let g = row_times p row in
      same_sum p (get_or (front_blocks g (suc n) all) c 0) (dot_product (row c) all)
      (column c n (front_blocks g n xs)) (dots (row c) n xs)
      (ap (λ m. m % p) (place c w x y z xs n h) ∙ mod-mod (dot_product (row c) all) p)
      (column-images c n xs h (omega (arith, fits)))

  added-images : (s t : ℕ → ℕ) (n : ℕ) (xs : List ℕ) → length xs ≡ 4 * n
      → ((c : ℕ) → c < 4 → s c % p ≡ t c % p)
      → front_blocks (sum_at p (s 0) (s 1) (s 2) (s 3)) n (front_blocks (row_times p row) n xs)
      ≡ circulated p row t n xs
  added-images s t zero [] long same = refl
  added-images s t zero (x ∷ xs) long same = absurd (omega (arith, long))
  added-images s t (suc n) [] long same = absurd (omega (arith, long))
  added-images s t (suc n) (w ∷ []) long same = absurd (omega (arith, long))
  added-images s t (suc n) (w ∷ x ∷ []) long same = absurd (omega (arith, long))
  added-images s t (suc n) (w ∷ x ∷ y ∷ []) long same = absurd (omega (arith, long))
  added-images s t (suc n) (w ∷ x ∷ y ∷ z ∷ xs) long same =
      let all = w ∷ x ∷ y ∷ z ∷ xs in
      let short = w ∷ x ∷ y ∷ z ∷ [] in
      let turned : (m n : ℕ) → m + n ≡ n + m = λ m n. omega arith in
      let left = λ (c : ℕ). (dot_product (row c) short % p + s c) % p in
      let right = λ (c : ℕ). (t c + dot_product (row c) all) % p in
      let one : (c : ℕ) → c < 4 → left c ≡ right c =
      λ c h. same_sum p (dot_product (row c) short % p) (dot_product (row c) all) (s c) (t c)
      (mod-mod (dot_product (row c) short) p ∙ ap (λ m. m % p) (dot-four (row c) w x y z xs (four c))) (same c h)
      ∙ ap (λ m. m % p) (turned (dot_product (row c) all) (t c)) in
      four-same left right _ _ one (added-images s t n xs (omega (arith, long)) same)

  -- blocks multiplied, and the sums at each place added, are the product with the block circulant
  pub circulant-by-sums : (n : ℕ) (xs : List ℕ) → length xs ≡ 4 * n
      → added_columns p n (front_blocks (row_times p row) n xs) ≡ matrix_product p (block_circulant row n) xs
  circulant-by-sums n xs long =
      let fits : 4 * n ≤ length xs = omega (arith, long) in
      let mid = front_blocks (row_times p row) n xs in
      let one : (c : ℕ) → c < 4 → column c n mid % p % p ≡ dots (row c) n xs % p =
      λ c h. mod-mod (column c n mid) p ∙ column-images c n xs h fits in
      added-images (λ c. column c n mid % p) (λ c. dots (row c) n xs) n xs long one
      ∙ sym (product-rows_of_blocks p row n 0 n xs four (omega arith))

  -- one block multiplied is the product with the matrix of four by four
  pub block-alone : (xs : List ℕ) → length xs ≡ 4
      → front_blocks (row_times p row) 1 xs ≡ matrix_product p (row 0 ∷ row 1 ∷ row 2 ∷ row 3 ∷ []) xs
  block-alone [] long = absurd (omega (arith, long))
  block-alone (w ∷ []) long = absurd (omega (arith, long))
  block-alone (w ∷ x ∷ []) long = absurd (omega (arith, long))
  block-alone (w ∷ x ∷ y ∷ []) long = absurd (omega (arith, long))
  block-alone (w ∷ x ∷ y ∷ z ∷ []) long = refl
  block-alone (w ∷ x ∷ y ∷ z ∷ v ∷ xs) long = absurd (omega (arith, long))
