-- The partial rounds are a recurrence.
use Rattle.std.proofs.Common.{◌≡◌, inl, inr, ℕ, zero, suc, ◌+◌, ◌*◌, ◌%◌, ◌<◌, ◌≤◌, List, [], ◌∷◌, ◌++◌, length, get_or, take, drop, map, fold, replicate, All, refl, sym, ◌∙◌, ap, ap₂, arith}
use Rattle.std.proofs.Math.Nat.{add-mod-mod, mod-add-mod, mod-eq_of_lt}
use Rattle.std.proofs.lemmas.Bool.{cases_lt}
use Rattle.std.proofs.lemmas.List.{length-map, map-append, drop-map, take_all}
use Rattle.std.proofs.lemmas.List.Sums.{fold_more}
use Rattle.ark_groups.specs.Field.{IsField, dot_product}
use Rattle.ark_sponge.specs.Permutation.{sums, matrix_product, poseidon_round, poseidon_rounds}
use Rattle.ark_sponge.specs.Recurrence.{ShortRounds, on_tail, short_round, short_rounds, AreRounds, IsCombination, IsProduct, TakesBack, TurnsAlike, plain_round, MovesOne, AreMoved}
use Rattle.ark_sponge.proofs.Rows.{length-sums}
use Rattle.ark_sponge.proofs.Permuting.{matrix_product-below}
use Rattle.ark_sponge.proofs.Products.{same_sum, dot-sums_right}

-- ---- a round over a window

module _ (p : ℕ) (mds into : List (List ℕ)) (output feedback : List ℕ) where
  -- why a round over the window is one over the numbers
  pub turns_from : (top : List ℕ) (others : List (List ℕ)) (corner : ℕ) (behind coefficients last : List ℕ)
      → mds ≡ top ∷ others → top ≡ corner ∷ behind → output ≡ corner ∷ coefficients
      → IsCombination p coefficients into behind → IsCombination p feedback into last
      → IsProduct p into others (map (λ row. 0 ∷ row) (drop 1 into) ++ (1 ∷ last) ∷ [])
      → TurnsAlike p mds into output feedback
  turns_from top others corner behind coefficients last is_mds is_top is_output first appended product image xs =
      let window = matrix_product p into xs in
      let over = λ (row : List ℕ). dot_product row (image ∷ xs) % p in
      let head : over top ≡ dot_product output (image ∷ window) % p =
      ap over is_top
      ∙ same_sum p (corner * image) (corner * image) (dot_product behind xs) (dot_product coefficients window) refl
      (first xs) ∙ ap (λ row. dot_product row (image ∷ window) % p) (sym is_output) in
      let end : over (1 ∷ last) ≡ (image + dot_product feedback window) % p =
      same_sum p (1 * image) image (dot_product last xs) (dot_product feedback window) (ap (λ n. n % p) (omega arith))
      (appended xs) in
      let tail : matrix_product p into (matrix_product p others (image ∷ xs))
      ≡ drop 1 window ++ (image + dot_product feedback window) % p ∷ [] =
      sym (product (image ∷ xs)) ∙ map-append over (map (λ row. 0 ∷ row) (drop 1 into)) ((1 ∷ last) ∷ [])
      ∙ ap₂ (λ ts n. ts ++ n ∷ []) (behind_zeros image xs (drop 1 into)
      ∙ sym (drop-map (λ row. dot_product row xs % p) 1 into)) end in
      ap (λ m. on_tail (matrix_product p into) (matrix_product p m (image ∷ xs))) is_mds
      ∙ ap₂ (λ n ts. n ∷ ts) head tail
    where
      behind_zeros : (image : ℕ) (xs : List ℕ) (rows : List (List ℕ))
          → map (λ row. dot_product row (image ∷ xs) % p) (map (λ row. 0 ∷ row) rows) ≡ matrix_product p rows xs
      behind_zeros image xs [] = refl
      behind_zeros image xs (row ∷ rows) =
          ap₂ (λ n ts. n ∷ ts) (ap (λ n. n % p) (omega arith)) (behind_zeros image xs rows)

-- ---- states

module _ (p : ℕ) (some : 0 < p) (sbox : ℕ → ℕ) (mds : List (List ℕ)) (two : 1 ≤ length mds) where
  length-plain : (z : List ℕ) (k : ℕ) → length z ≡ length mds → length (plain_round p sbox mds z k) ≡ length mds
  length-plain [] k same = absurd (omega (arith, two, same))
  length-plain (x ∷ z) k same = length-map mds (λ row. dot_product row (sbox ((x + k) % p) ∷ z) % p)

  pub length-plains : (ks z : List ℕ) → length z ≡ length mds → length (fold (plain_round p sbox mds) z ks) ≡ length mds
  length-plains [] z same = same
  length-plains (k ∷ ks) z same = length-plains ks (plain_round p sbox mds z k) (length-plain z k same)

  below-plains : (ks z : List ℕ) → All (λ n. n < p) z → All (λ n. n < p) (fold (plain_round p sbox mds) z ks)
  below-plains [] z below = below
  below-plains (k ∷ ks) z below = below-plains ks (plain_round p sbox mds z k) (below-plain z below)
    where
      below-plain : (z : List ℕ) → All (λ n. n < p) z → All (λ n. n < p) (plain_round p sbox mds z k)
      below-plain [] below = below
      below-plain (x ∷ z) below = matrix_product-below p mds (sbox ((x + k) % p) ∷ z) some

  module _ (into : List (List ℕ)) (output feedback : List ℕ) (turns : TurnsAlike p mds into output feedback) where
    turn-one : (z : List ℕ) (k : ℕ) → length z ≡ length mds
        → on_tail (matrix_product p into) (plain_round p sbox mds z k)
        ≡ short_round p sbox output feedback (on_tail (matrix_product p into) z) k
    turn-one [] k same = absurd (omega (arith, two, same))
    turn-one (x ∷ z) k same = turns (sbox ((x + k) % p)) z

    turn-all : (ks z : List ℕ) → length z ≡ length mds
        → on_tail (matrix_product p into) (fold (plain_round p sbox mds) z ks)
        ≡ fold (short_round p sbox output feedback) (on_tail (matrix_product p into) z) ks
    turn-all [] z same = refl
    turn-all (k ∷ ks) z same =
        turn-all ks (plain_round p sbox mds z k) (length-plain z k same)
        ∙ ap (λ t. fold (short_round p sbox output feedback) t ks) (turn-one z k same)

  taken-back : (back into : List (List ℕ)) (n : ℕ) → TakesBack p n back into → (z : List ℕ) → length z ≡ suc n
      → All (λ x. x < p) z → on_tail (matrix_product p back) (on_tail (matrix_product p into) z) ≡ z
  taken-back back into n takes [] same below = refl
  taken-back back into n takes (x ∷ z) same below =
      ap (λ t. x ∷ t) (takes z (omega (arith, same)) (λ k d within. below (suc k) d (omega (arith, within))))

-- the theorem
pub are_rounds : (p n : ℕ) (mds rows : List (List ℕ)) (r : ShortRounds) → 0 < p → length mds ≡ suc n
    → length r.output ≡ length mds → TakesBack p n r.back r.into → TurnsAlike p mds r.into r.output r.feedback
    → AreMoved p mds rows r.constants r.offset → AreRounds p mds rows r
unfolding short_rounds
are_rounds p n mds rows r some many wide takes turns moved = (
  wide,
  λ sbox xs same below.
      let two : 1 ≤ length mds = omega (arith, many) in
      let end = fold (plain_round p sbox mds) xs r.constants in
      let long : length end ≡ suc n = length-plains p some sbox mds two r.constants xs same ∙ many in
      ap (λ t. sums p (on_tail (matrix_product p r.back) t) r.offset)
      (sym (turn-all p some sbox mds two r.into r.output r.feedback turns r.constants xs same))
      ∙ ap (λ t. sums p t r.offset) (taken-back p some sbox mds two r.back r.into n takes end long
      (below-plains p some sbox mds two r.constants xs below))
      ∙ moved sbox xs same below,
)

-- ---- constants, moved

sums-sums : (p : ℕ) (xs os cs : List ℕ) → length os ≡ length xs → length cs ≡ length xs
    → sums p (sums p xs os) cs ≡ sums p xs (sums p os cs)
sums-sums p [] [] [] same alike = refl
sums-sums p [] [] (c ∷ cs) same alike = refl
sums-sums p [] (o ∷ os) cs same alike = refl
sums-sums p (x ∷ xs) [] cs same alike = absurd (omega (arith, same))
sums-sums p (x ∷ xs) (o ∷ os) [] same alike = absurd (omega (arith, alike))
sums-sums p (x ∷ xs) (o ∷ os) (c ∷ cs) same alike =
    ap₂ (λ n ts. n ∷ ts) (mod-add-mod (x + o) p c ∙ ap (λ n. n % p) (omega arith) ∙ sym (add-mod-mod x (o + c) p))
    (sums-sums p xs os cs (omega (arith, same)) (omega (arith, alike)))

-- the matrix of a sum, without the first number of the second
matrix-sums : (p s : ℕ) (rows : List (List ℕ)) (u v : List ℕ) → length v ≡ length u
    → matrix_product p rows (s ∷ sums p u v) ≡ sums p (matrix_product p rows (s ∷ u)) (matrix_product p rows (0 ∷ v))
matrix-sums p s [] u v same = refl
matrix-sums p s (row ∷ rows) u v same = ap₂ (λ n ts. n ∷ ts) (at row) (matrix-sums p s rows u v same)
  where
    at : (row : List ℕ) → dot_product row (s ∷ sums p u v) % p
        ≡ (dot_product row (s ∷ u) % p + dot_product row (0 ∷ v) % p) % p
    at [] = ap (λ n. n % p) (omega arith) ∙ sym (mod-add-mod 0 p (0 % p)) ∙ refl
    at (m ∷ row) =
        same_sum p (m * s) (m * s) (dot_product row (sums p u v)) (dot_product row u + dot_product row v) refl
        (dot-sums_right p row u v same)
        ∙ ap (λ n. n % p) (omega arith)
        ∙ sym (mod-add-mod (m * s + dot_product row u) p ((m * 0 + dot_product row v) % p)
        ∙ add-mod-mod (m * s + dot_product row u) (m * 0 + dot_product row v) p)

pub moves_one : (p : ℕ) (mds : List (List ℕ)) (row offset : List ℕ) (constant : ℕ) (rest next : List ℕ)
    → 1 ≤ length mds → length row ≡ length mds → length offset ≡ length mds → sums p offset row ≡ constant ∷ rest
    → next ≡ matrix_product p mds (0 ∷ rest) → MovesOne p mds row offset constant next
moves_one p mds row offset constant rest next two wide long is_sum is_next sbox [] same =
    absurd (omega (arith, two, same))
moves_one p mds [] offset constant rest next two wide long is_sum is_next sbox (x ∷ xs) same =
    absurd (omega (arith, two, wide))
moves_one p mds (c ∷ cs) [] constant rest next two wide long is_sum is_next sbox (x ∷ xs) same =
    absurd (omega (arith, two, long))
moves_one p mds (c ∷ cs) (o ∷ os) constant rest next two wide long is_sum is_next sbox (x ∷ xs) same =
    let is_constant : (o + c) % p ≡ constant = ap (λ ts. get_or ts 0 0) is_sum in
    let is_rest : sums p os cs ≡ rest = ap (λ ts. drop 1 ts) is_sum in
    let tail : sums p (sums p xs os) cs ≡ sums p xs rest =
    sums-sums p xs os cs (omega (arith, long, same)) (omega (arith, wide, same)) ∙ ap (sums p xs) is_rest in
    let head : ((x + o) % p + c) % p ≡ (x + constant) % p =
    mod-add-mod (x + o) p c ∙ ap (λ n. n % p) (omega arith) ∙ sym (add-mod-mod x (o + c) p)
    ∙ ap (λ n. (x + n) % p) is_constant in
    let short : length rest ≡ length xs =
    sym (ap length is_rest) ∙ length-sums p os cs ∙ omega (arith, long, same) in
    let image = sbox ((x + constant) % p) in
    ap (sums p (matrix_product p mds (image ∷ xs))) is_next ∙ sym (matrix-sums p image mds xs rest short)
    ∙ sym (ap₂ (λ n ts. matrix_product p mds (sbox n ∷ ts)) head tail)

sums-none : (p n : ℕ) (xs : List ℕ) → All (λ x. x < p) xs → sums p xs (replicate n 0) ≡ xs
sums-none p zero [] below = refl
sums-none p zero (x ∷ xs) below = refl
sums-none p (suc n) [] below = refl
sums-none p (suc n) (x ∷ xs) below =
    ap₂ (λ m ts. m ∷ ts) (ap (λ m. m % p) (omega arith) ∙ mod-eq_of_lt (below 0 0 (omega arith)))
    (sums-none p n xs (λ k d within. below (suc k) d (omega (arith, within))))

pub are_moved-none : (p n : ℕ) (mds rows : List (List ℕ)) (offset : List ℕ) → offset ≡ replicate n 0
    → AreMoved p mds (take 0 rows) [] offset
are_moved-none p n mds rows offset is sbox xs same below = ap (sums p xs) is ∙ sums-none p n xs below

fold-push : {X : Type 0} (f : X → ℕ → X) (a : X) (ks : List ℕ) (k : ℕ)
    → fold f a (ks ++ k ∷ []) ≡ f (fold f a ks) k
fold-push f a [] k = refl
fold-push f a (j ∷ ks) k = fold-push f (f a j) ks k

module _ (p : ℕ) (mds rows : List (List ℕ)) (some : 0 < p) (two : 1 ≤ length mds) where
  pub are_moved-more : (i : ℕ) (constants offset row : List ℕ) (constant : ℕ) (next : List ℕ) → i < length rows
      → row ≡ get_or rows i row → AreMoved p mds (take i rows) constants offset
      → MovesOne p mds row offset constant next → AreMoved p mds (take (i + 1) rows) (constants ++ constant ∷ []) next
  are_moved-more i constants offset row constant next within is so_far one sbox xs same below =
      let z = fold (plain_round p sbox mds) xs constants in
      let step = poseidon_round p sbox mds 1 in
      ap (λ t. sums p t next) (fold-push (plain_round p sbox mds) xs constants constant)
      ∙ one sbox z (length-plains p some sbox mds two constants xs same)
      ∙ ap₂ step (so_far sbox xs same below) is
      ∙ sym (fold_more step xs rows i row within)

pub are_moved-all : (p : ℕ) (mds rows : List (List ℕ)) (i : ℕ) (constants offset : List ℕ) → length rows ≤ i
    → AreMoved p mds (take i rows) constants offset → AreMoved p mds rows constants offset
are_moved-all p mds rows i constants offset all whole sbox xs same below =
    whole sbox xs same below ∙ ap (λ t. poseidon_rounds p sbox mds 1 t xs) (take_all i rows all)

-- elements are the numbers below one modulus alone
pub one_modulus : {F : Type 0} (value : F → ℕ) (p q : ℕ) → IsField p value → IsField q value → p ≡ q
one_modulus value p q first second = elim (cases_lt p q) as (λ s. p ≡ q) [
  | inl less ↦
      let made = second.made p less in
      absurd (omega (arith, made.1, first.below made.0))
  | inr more ↦ elim (cases_lt q p) as (λ s. p ≡ q) [
    | inl less ↦
        let made = first.made q less in
        absurd (omega (arith, made.1, second.below made.0))
    | inr same ↦ omega (arith, more, same)
  ]
]
