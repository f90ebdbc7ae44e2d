-- Sums of a state with multiples of its numbers are the product with a matrix of ones and a diagonal.
use Rattle.std.proofs.Common.{◌≡◌, ℕ, zero, suc, ◌+◌, ◌*◌, ◌%◌, ◌<◌, ◌≤◌, List, [], ◌∷◌, length, get_or, set, take, drop, map, replicate, sum, fold, refl, sym, ◌∙◌, ap, ap₂, arith, add-one}
use Rattle.std.proofs.Math.Nat.{mod-mod}
use Rattle.ark_groups.specs.Field.{dot_product}
use Rattle.ark_sponge.specs.Permutation.{matrix_product, sums}
use Rattle.ark_sponge.proofs.Products.{same_sum}
use Rattle.poseidon2.specs.Matrices.{ones_plus, ones_plus_from, internal_matrix}

-- the first numbers of a list combined with those of another, the others as they are
abbrev pub combined : (ℕ → ℕ → ℕ) → List ℕ → List ℕ → List ℕ
combined g [] ds = []
combined g (x ∷ xs) [] = x ∷ xs
combined g (x ∷ xs) (d ∷ ds) = g x d ∷ combined g xs ds

pub combined-nil : (g : ℕ → ℕ → ℕ) (xs : List ℕ) → combined g xs [] ≡ xs
combined-nil g [] = refl
combined-nil g (x ∷ xs) = refl

combined-step : (g : ℕ → ℕ → ℕ) (xs ds : List ℕ) (i : ℕ) → i < length xs → i < length ds
    → set (combined g xs (take i ds)) i (g (get_or xs i 0) (get_or ds i 0)) ≡ combined g xs (take (suc i) ds)
combined-step g [] ds i h k = absurd (omega (arith, h))
combined-step g (x ∷ xs) [] i h k = absurd (omega (arith, k))
combined-step g (x ∷ xs) (d ∷ ds) zero h k = ap (λ t. g x d ∷ t) (sym (combined-nil g xs))
combined-step g (x ∷ xs) (d ∷ ds) (suc i) h k =
    ap (λ t. g x d ∷ t) (combined-step g xs ds i (omega (arith, h)) (omega (arith, k)))

combined-rest : (g : ℕ → ℕ → ℕ) (xs ds : List ℕ) (i : ℕ) → get_or (combined g xs (take i ds)) i 0 ≡ get_or xs i 0
combined-rest g [] ds i = refl
combined-rest g (x ∷ xs) [] zero = refl
combined-rest g (x ∷ xs) [] (suc i) = refl
combined-rest g (x ∷ xs) (d ∷ ds) zero = refl
combined-rest g (x ∷ xs) (d ∷ ds) (suc i) = combined-rest g xs ds i

-- one number more
pub combined-more : (g : ℕ → ℕ → ℕ) (xs ds : List ℕ) (i : ℕ) → i < length xs → i < length ds
    → let t = combined g xs (take i ds) in
    set t i (g (get_or t i 0) (get_or ds i 0)) ≡ combined g xs (take (i + 1) ds)
combined-more g xs ds i within in_ds =
    rw (combined-rest g xs ds i, combined-step g xs ds i within in_ds, add-one i) refl

-- constants, and an S-box
pub combined-images : (p : ℕ) (sbox : ℕ → ℕ) (xs cs : List ℕ) → length cs ≡ length xs
    → combined (λ x c. sbox ((x + c) % p)) xs cs ≡ map sbox (sums p xs cs)
combined-images p sbox [] cs long = refl
combined-images p sbox (x ∷ xs) [] long = absurd (omega (arith, long))
combined-images p sbox (x ∷ xs) (c ∷ cs) long =
    ap (λ t. sbox ((x + c) % p) ∷ t) (combined-images p sbox xs cs (omega (arith, long)))

-- ---- the matrix

fold-plus : (a : ℕ) (xs : List ℕ) → fold ◌+◌ a xs ≡ a + fold ◌+◌ 0 xs
fold-plus a [] = omega arith
fold-plus a (x ∷ xs) =
    let left : fold ◌+◌ (a + x) xs ≡ a + x + fold ◌+◌ 0 xs = fold-plus (a + x) xs in
    let right : fold ◌+◌ (0 + x) xs ≡ 0 + x + fold ◌+◌ 0 xs = fold-plus (0 + x) xs in
    left ∙ turned-sum a x (fold ◌+◌ 0 xs) ∙ sym (ap (λ n. a + n) right)
  where
    turned-sum : (k m n : ℕ) → k + m + n ≡ k + (0 + m + n)
    turned-sum k m n = omega arith

sum-cons : (x : ℕ) (xs : List ℕ) → sum (x ∷ xs) ≡ x + sum xs
sum-cons x xs =
    let none : 0 + x ≡ x = omega arith in
    fold-plus (0 + x) xs ∙ ap (λ n. n + sum xs) none

dot-ones : (n : ℕ) (xs : List ℕ) → length xs ≡ n → dot_product (replicate n 1) xs ≡ sum xs
dot-ones zero [] long = refl
dot-ones zero (x ∷ xs) long = absurd (omega (arith, long))
dot-ones (suc n) [] long = absurd (omega (arith, long))
dot-ones (suc n) (x ∷ xs) long =
    let one : dot_product (replicate (suc n) 1) (x ∷ xs) ≡ 1 * x + dot_product (replicate n 1) xs = refl in
    omega (arith, one, dot-ones n xs (omega (arith, long)), sum-cons x xs)

dot-ones_plus : (n i d : ℕ) (xs : List ℕ) → length xs ≡ n → i < n
    → dot_product (ones_plus n i d) xs ≡ sum xs + get_or xs i 0 * d
dot-ones_plus zero i d xs long within = absurd (omega (arith, within))
dot-ones_plus (suc n) i d [] long within = absurd (omega (arith, long))
dot-ones_plus (suc n) zero d (x ∷ xs) long within =
    let one : (1 + d) * x ≡ x + x * d = omega arith in
    omega (arith, one, dot-ones n xs (omega (arith, long)), sum-cons x xs)
dot-ones_plus (suc n) (suc i) d (x ∷ xs) long within =
    omega (arith, dot-ones_plus n i d xs (omega (arith, long)) (omega (arith, within)), sum-cons x xs)

drop-split : (i : ℕ) (xs : List ℕ) → i < length xs → drop i xs ≡ get_or xs i 0 ∷ drop (suc i) xs
drop-split i [] h = absurd (omega (arith, h))
drop-split zero (x ∷ xs) h = refl
drop-split (suc i) (x ∷ xs) h = drop-split i xs (omega (arith, h))

product-from : (p : ℕ) (g : ℕ → ℕ → ℕ) (n i : ℕ) (ds xs : List ℕ) → length xs ≡ n → i + length ds ≡ n
    → ((x d : ℕ) → g x d ≡ (sum xs + x * d) % p)
    → matrix_product p (ones_plus_from n i ds) xs ≡ combined g (drop i xs) ds
product-from p g n i [] xs long all is =
    sym (combined-nil g (drop i xs) ∙ none i xs (omega (arith, long, all)))
  where
    none : (j : ℕ) (ys : List ℕ) → length ys ≤ j → drop j ys ≡ []
    none zero [] h = refl
    none (suc j) [] h = refl
    none zero (y ∷ ys) h = absurd (omega (arith, h))
    none (suc j) (y ∷ ys) h = none j ys (omega (arith, h))
product-from p g n i (d ∷ ds) xs long all is =
    let within : i < length xs = omega (arith, long, all) in
    let one : dot_product (ones_plus n i d) xs % p ≡ g (get_or xs i 0) d =
    ap (λ m. m % p) (dot-ones_plus n i d xs long (omega (arith, within, long))) ∙ sym (is (get_or xs i 0) d) in
    ap₂ (λ m t. m ∷ t) one (product-from p g n (suc i) ds xs long (omega (arith, all)) is)
    ∙ sym (ap (λ t. combined g t (d ∷ ds)) (drop-split i xs within))

turned : (m n : ℕ) → m + n ≡ n + m
turned m n = omega arith

-- numbers combined so are the product with the matrix
by-sums : (p : ℕ) (g : ℕ → ℕ → ℕ) (ds xs : List ℕ) → length ds ≡ length xs
    → ((x d : ℕ) → g x d ≡ (sum xs + x * d) % p) → combined g xs ds ≡ matrix_product p (internal_matrix ds) xs
by-sums p g ds xs long is = sym (product-from p g (length ds) 0 ds xs (sym long) (omega arith) is)

-- a product and the sum of all, added modulo p
pub internal-by-sums : (p all : ℕ) (ds xs : List ℕ) → length ds ≡ length xs → all ≡ sum xs % p
    → combined (λ x d. (x * d % p + all) % p) xs ds ≡ matrix_product p (internal_matrix ds) xs
internal-by-sums p all ds xs long is =
    by-sums p (λ x d. (x * d % p + all) % p) ds xs long (λ x d.
    same_sum p (x * d % p) (x * d) all (sum xs) (mod-mod (x * d) p) (ap (λ m. m % p) is ∙ mod-mod (sum xs) p)
    ∙ ap (λ m. m % p) (turned (x * d) (sum xs)))

pub length-ones : (k : ℕ) → length {A = ℕ} (replicate k 1) ≡ k
length-ones zero = refl
length-ones (suc k) = ap suc (length-ones k)

-- the sum of all added to each, with ones as the diagonal
pub total-by-sums : (p all n : ℕ) (xs : List ℕ) → n ≡ length xs → all ≡ sum xs % p
    → combined (λ x d. (x * d + all) % p) xs (replicate n 1) ≡ matrix_product p (internal_matrix (replicate n 1)) xs
total-by-sums p all n xs long is =
    by-sums p (λ x d. (x * d + all) % p) (replicate n 1) xs (length-ones n ∙ long) (λ x d.
    same_sum p (x * d) (x * d) all (sum xs) refl (ap (λ m. m % p) is ∙ mod-mod (sum xs) p)
    ∙ ap (λ m. m % p) (turned (x * d) (sum xs)))

-- the sum of one element more, modulo p
sum-step : (xs : List ℕ) (i : ℕ) → i < length xs → sum (take i xs) + get_or xs i 0 ≡ sum (take (suc i) xs)
sum-step [] i h = absurd (omega (arith, h))
sum-step (x ∷ xs) zero h = omega (arith, sum-cons x [])
sum-step (x ∷ xs) (suc i) h =
    omega (arith, sum-step xs i (omega (arith, h)), sum-cons x (take i xs), sum-cons x (take (suc i) xs))

pub sum-more : (p : ℕ) (xs : List ℕ) (i all x new : ℕ) → i < length xs → all ≡ sum (take i xs) % p
    → x ≡ get_or xs i 0 → new ≡ (all + x) % p → new ≡ sum (take (i + 1) xs) % p
sum-more p xs i all x new h is_all is_x is_new =
    is_new ∙ same_sum p all (sum (take i xs)) x (get_or xs i 0)
    (ap (λ m. m % p) is_all ∙ mod-mod (sum (take i xs)) p) (ap (λ m. m % p) is_x)
    ∙ ap (λ m. m % p) (sum-step xs i h ∙ ap (λ n. sum (take n xs)) (sym (add-one i)))
