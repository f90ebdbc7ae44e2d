-- Sums of products, modulo p: combinations of rows, and products of matrices.
use Rattle.std.proofs.Common.{◌≡◌, ℕ, zero, suc, ◌+◌, ◌*◌, ◌%◌, ◌<◌, ◌≤◌, List, [], ◌∷◌, ◌++◌, length, get_or, set, take, map, replicate, All, refl, sym, ◌∙◌, ap, ap₂, arith}
use Rattle.std.proofs.Math.Nat.{add-mod-mod, mod-add-mod, mod-eq_of_lt}
use Rattle.std.proofs.lemmas.Nat.{mul-mod_first, mul-mod_second}
use Rattle.std.proofs.lemmas.List.{length-map, length-take, take_more, map_more, map_push, take_all}
use Rattle.ark_groups.specs.Field.{dot_product}
use Rattle.ark_sponge.specs.Permutation.{sums, matrix_product}
use Rattle.ark_sponge.specs.Recurrence.{IsCombination, IsProduct}

pub same_sum : (p a b c d : ℕ) → a % p ≡ b % p → c % p ≡ d % p → (a + c) % p ≡ (b + d) % p
same_sum p a b c d e f =
    sym (mod-add-mod a p c) ∙ sym (add-mod-mod (a % p) c p) ∙ ap₂ (λ m n. (m + n) % p) e f
    ∙ add-mod-mod (b % p) d p ∙ mod-add-mod b p d

-- ---- a row times numbers

dot-nil : (row : List ℕ) → dot_product row [] ≡ 0
dot-nil [] = refl
dot-nil (m ∷ row) = refl

pub dot-mod : (p : ℕ) (row xs : List ℕ) → dot_product row (map (λ n. n % p) xs) % p ≡ dot_product row xs % p
dot-mod p [] xs = refl
dot-mod p (m ∷ row) [] = refl
dot-mod p (m ∷ row) (x ∷ xs) =
    same_sum p (m * (x % p)) (m * x) (dot_product row (map (λ n. n % p) xs)) (dot_product row xs)
    (mul-mod_second m x p) (dot-mod p row xs)

pub dot-sums : (p : ℕ) (u v xs : List ℕ) → length v ≤ length u
    → dot_product (sums p u v) xs % p ≡ (dot_product u xs + dot_product v xs) % p
dot-sums p [] [] xs short = refl
dot-sums p [] (y ∷ v) xs short = absurd (omega (arith, short))
dot-sums p (x ∷ u) [] xs short = ap (λ n. n % p) (omega arith)
dot-sums p (x ∷ u) (y ∷ v) [] short = refl
dot-sums p (x ∷ u) (y ∷ v) (z ∷ xs) short =
    same_sum p ((x + y) % p * z) ((x + y) * z) (dot_product (sums p u v) xs) (dot_product u xs + dot_product v xs)
    (mul-mod_first (x + y) z p) (dot-sums p u v xs (omega (arith, short)))
    ∙ ap (λ n. n % p) (omega arith)

pub dot-sums_right : (p : ℕ) (row u v : List ℕ) → length v ≡ length u
    → dot_product row (sums p u v) % p ≡ (dot_product row u + dot_product row v) % p
dot-sums_right p [] u v same = refl
dot-sums_right p (m ∷ row) [] [] same = refl
dot-sums_right p (m ∷ row) [] (y ∷ v) same = absurd (omega (arith, same))
dot-sums_right p (m ∷ row) (x ∷ u) [] same = absurd (omega (arith, same))
dot-sums_right p (m ∷ row) (x ∷ u) (y ∷ v) same =
    same_sum p (m * ((x + y) % p)) (m * (x + y)) (dot_product row (sums p u v))
    (dot_product row u + dot_product row v) (mul-mod_second m (x + y) p)
    (dot-sums_right p row u v (omega (arith, same)))
    ∙ ap (λ n. n % p) (omega arith)

pub dot-scaled : (p m : ℕ) (row xs : List ℕ)
    → dot_product (map (λ x. (x * m) % p) row) xs % p ≡ (m * dot_product row xs) % p
dot-scaled p m [] xs = ap (λ n. n % p) (omega arith)
dot-scaled p m (b ∷ row) [] = ap (λ n. n % p) (omega arith)
dot-scaled p m (b ∷ row) (z ∷ xs) =
    same_sum p ((b * m) % p * z) (b * m * z) (dot_product (map (λ x. (x * m) % p) row) xs) (m * dot_product row xs)
    (mul-mod_first (b * m) z p) (dot-scaled p m row xs)
    ∙ ap (λ n. n % p) (omega arith)

dot-snoc : (a c : List ℕ) (x y : ℕ) → length a ≡ length c
    → dot_product (a ++ x ∷ []) (c ++ y ∷ []) ≡ dot_product a c + x * y
dot-snoc [] [] x y same = omega arith
dot-snoc [] (d ∷ c) x y same = absurd (omega (arith, same))
dot-snoc (b ∷ a) [] x y same = absurd (omega (arith, same))
dot-snoc (b ∷ a) (d ∷ c) x y same = ap (λ n. b * d + n) (dot-snoc a c x y (omega (arith, same))) ∙ omega arith

pub dot-zeros : (n : ℕ) (xs : List ℕ) → dot_product (replicate n 0) xs ≡ 0
dot-zeros zero xs = refl
dot-zeros (suc n) [] = refl
dot-zeros (suc n) (x ∷ xs) = ap (λ m. 0 * x + m) (dot-zeros n xs) ∙ omega arith

-- a row of the identity takes one number out
dot-unit : (n i : ℕ) (xs : List ℕ) → i < n → length xs ≡ n
    → dot_product (set (replicate n 0) i 1) xs ≡ get_or xs i 0
dot-unit zero i xs within same = absurd (omega (arith, within))
dot-unit (suc n) i [] within same = absurd (omega (arith, same))
dot-unit (suc n) zero (x ∷ xs) within same =
    ap (λ m. 1 * x + m) (dot-zeros n xs) ∙ omega arith
dot-unit (suc n) (suc i) (x ∷ xs) within same =
    ap (λ m. 0 * x + m) (dot-unit n i xs (omega (arith, within)) (omega (arith, same))) ∙ omega arith

-- ---- the loops

module _ (p : ℕ) where
  -- what stands after some rows of a combination
  pub SumsUpTo : List ℕ → List (List ℕ) → ℕ → List ℕ → List ℕ → Type 0
  SumsUpTo factors rows i start sum =
      (xs : List ℕ) → dot_product sum xs % p
      ≡ (dot_product start xs + dot_product (take i factors) (matrix_product p (take i rows) xs)) % p

  pub sums_up_to-none : (factors : List ℕ) (rows : List (List ℕ)) (start : List ℕ)
      → SumsUpTo factors rows 0 start start
  unfolding SumsUpTo
  sums_up_to-none factors rows start xs = ap (λ n. n % p) (omega arith)

  pub sums_up_to-all : (factors : List ℕ) (rows : List (List ℕ)) (i : ℕ) (start sum : List ℕ) → length factors ≤ i
      → length rows ≤ i → SumsUpTo factors rows i start sum → (xs : List ℕ) → dot_product sum xs % p
      ≡ (dot_product start xs + dot_product factors (matrix_product p rows xs)) % p
  unfolding SumsUpTo
  sums_up_to-all factors rows i start sum all all_rows whole xs =
      whole xs ∙ ap₂ (λ fs rs. (dot_product start xs + dot_product fs (matrix_product p rs xs)) % p)
      (take_all i factors all) (take_all i rows all_rows)

  -- a combination begun at zeros
  pub combination_of : (n : ℕ) (factors : List ℕ) (rows : List (List ℕ)) (start sum : List ℕ) → start ≡ replicate n 0
      → ((xs : List ℕ) → dot_product sum xs % p
      ≡ (dot_product start xs + dot_product factors (matrix_product p rows xs)) % p)
      → IsCombination p factors rows sum
  combination_of n factors rows start sum none whole xs =
      whole xs ∙ ap (λ m. (m + dot_product factors (matrix_product p rows xs)) % p)
      (ap (λ r. dot_product r xs) none ∙ dot-zeros n xs) ∙ ap (λ m. m % p) (omega arith)

  -- some rows of a product of matrices
  pub RowsUpTo : List (List ℕ) → List (List ℕ) → ℕ → List (List ℕ) → Type 0
  RowsUpTo first second i rows =
      (xs : List ℕ) → matrix_product p rows xs ≡ matrix_product p (take i first) (matrix_product p second xs)

  pub rows_up_to-none : (first second : List (List ℕ)) → RowsUpTo first second 0 []
  unfolding RowsUpTo
  rows_up_to-none first second xs = refl

  pub rows_up_to-more : (first second rows : List (List ℕ)) (i : ℕ) (factors row : List ℕ) → i < length first
      → factors ≡ get_or first i [] → RowsUpTo first second i rows → IsCombination p factors second row
      → RowsUpTo first second (i + 1) (rows ++ row ∷ [])
  unfolding RowsUpTo
  rows_up_to-more first second rows i factors row within is so_far made xs =
      let ys = matrix_product p second xs in
      let product = λ (r : List ℕ). dot_product r xs % p in
      let over = λ (r : List ℕ). dot_product r ys % p in
      map_push product rows row ∙ ap₂ (λ ts n. ts ++ n ∷ []) (so_far xs) (made xs ∙ ap over is)
      ∙ sym (map_more over first i [] within)

  pub rows_up_to-all : (first second rows : List (List ℕ)) (i : ℕ) → length first ≤ i → RowsUpTo first second i rows
      → IsProduct p first second rows
  unfolding RowsUpTo
  rows_up_to-all first second rows i all whole xs =
      whole xs ∙ ap (λ t. matrix_product p t (matrix_product p second xs)) (take_all i first all)

  -- the first rows of the identity
  pub UnitsUpTo : ℕ → ℕ → List (List ℕ) → Type 0
  UnitsUpTo n i rows =
      (xs : List ℕ) → length xs ≡ n → All (λ x. x < p) xs → matrix_product p rows xs ≡ take i xs

  pub units_up_to-none : (n : ℕ) → UnitsUpTo n 0 []
  unfolding UnitsUpTo
  units_up_to-none n xs same below = refl

  pub units_up_to-more : (n i : ℕ) (rows : List (List ℕ)) (row : List ℕ) → i < n → row ≡ set (replicate n 0) i 1
      → UnitsUpTo n i rows → UnitsUpTo n (i + 1) (rows ++ row ∷ [])
  unfolding UnitsUpTo
  units_up_to-more n i rows row within is so_far xs same below =
      let in_xs : i < length xs = omega (arith, within, same) in
      let one : dot_product row xs % p ≡ get_or xs i 0 =
      ap (λ r. dot_product r xs % p) is ∙ ap (λ m. m % p) (dot-unit n i xs within same)
      ∙ mod-eq_of_lt (below i 0 in_xs) in
      map_push (λ r. dot_product r xs % p) rows row ∙ ap₂ (λ ts m. ts ++ m ∷ []) (so_far xs same below) one
      ∙ sym (take_more xs i 0 in_xs)

  pub units_up_to-all : (n i : ℕ) (rows : List (List ℕ)) → n ≤ i → UnitsUpTo n i rows → (xs : List ℕ) → length xs ≡ n
      → All (λ x. x < p) xs → matrix_product p rows xs ≡ xs
  unfolding UnitsUpTo
  units_up_to-all n i rows all whole xs same below =
      whole xs same below ∙ take_all i xs (omega (arith, all, same))

-- one factor more
module _ (p : ℕ) (factors : List ℕ) (rows : List (List ℕ)) (same : length factors ≡ length rows) where
  pub sums_up_to-more : (i m : ℕ) (start sum row scaled next : List ℕ) → i < length factors
      → m ≡ get_or factors i 0 → row ≡ get_or rows i [] → length row ≤ length sum
      → SumsUpTo p factors rows i start sum → scaled ≡ map (λ x. (x * m) % p) row
      → next ≡ sums p sum scaled → SumsUpTo p factors rows (i + 1) start next
  unfolding SumsUpTo
  sums_up_to-more i m start sum row scaled next within is_m is_row short so_far is_scaled is_next xs =
      let product = λ (r : List ℕ). dot_product r xs % p in
      let front = take i factors in
      let images = map product (take i rows) in
      let in_rows : i < length rows = omega (arith, within, same) in
      let long : length front ≡ length images =
      length-take i factors ∙ omega (arith, within, in_rows, length-take i rows, length-map (take i rows) product) in
      let left : dot_product next xs % p ≡ (dot_product sum xs + dot_product scaled xs) % p =
      ap (λ r. dot_product r xs % p) is_next
      ∙ dot-sums p sum scaled xs (omega (arith, short, ap length is_scaled, length-map row (λ x. (x * m) % p))) in
      let one : dot_product scaled xs % p ≡ (m * product row) % p =
      ap (λ r. dot_product r xs % p) is_scaled ∙ dot-scaled p m row xs ∙ sym (mul-mod_second m (dot_product row xs) p)
      in
      let middle : (dot_product sum xs + dot_product scaled xs) % p
      ≡ (dot_product start xs + dot_product front images + m * product row) % p =
      same_sum p (dot_product sum xs) (dot_product start xs + dot_product front images) (dot_product scaled xs)
      (m * product row) (so_far xs) one in
      let right : dot_product (take (i + 1) factors) (matrix_product p (take (i + 1) rows) xs)
      ≡ dot_product front images + m * product row =
      ap₂ dot_product (take_more factors i 0 within ∙ ap (λ n. front ++ n ∷ []) (sym is_m))
      (map_more product rows i [] in_rows ∙ ap (λ r. images ++ product r ∷ []) (sym is_row))
      ∙ dot-snoc front images m (product row) long in
      left ∙ middle ∙ ap (λ n. n % p) (omega (arith, right))
