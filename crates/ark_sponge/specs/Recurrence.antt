-- The partial rounds as a linear recurrence: each takes 2t - 1 products, where a state has t numbers, not t * t.
-- Only the first number goes through the S-box. The others, in another basis, are a window over one sequence: a round
-- takes the oldest number out and appends a linear combination of the window and the image.
use Rattle.std.specs.Prelude.{◌≡◌, ℕ, ◌+◌, ◌%◌, ◌<◌, List, [], ◌∷◌, ◌++◌, length, fold, drop, All}
use Rattle.ark_groups.specs.Field.{dot_product}
use Rattle.ark_sponge.specs.Permutation.{sums, matrix_product, poseidon_round, poseidon_rounds}

-- What the partial rounds run by.
pub record ShortRounds : Type 0 where
  -- the next first number, of the image and the window
  pub output : List ℕ
  -- what is added to the image for the next number of the window
  pub feedback : List ℕ
  -- the window of the numbers behind the first, and these of a window
  pub into : List (List ℕ)
  pub back : List (List ℕ)
  -- one constant for each round, and what is added at the end
  pub constants : List ℕ
  pub offset : List ℕ

-- the numbers behind the first, changed
abbrev pub on_tail : (List ℕ → List ℕ) → List ℕ → List ℕ
on_tail f [] = []
on_tail f (x ∷ xs) = x ∷ f xs

-- the state behind an image and a window
abbrev pub turned : ℕ → List ℕ → List ℕ → ℕ → List ℕ → List ℕ
turned p output feedback image window =
    dot_product output (image ∷ window) % p ∷ (drop 1 window ++ (image + dot_product feedback window) % p ∷ [])

-- one round over a first number and a window
abbrev pub short_round : ℕ → (ℕ → ℕ) → List ℕ → List ℕ → List ℕ → ℕ → List ℕ
short_round p sbox output feedback [] constant = []
short_round p sbox output feedback (x ∷ window) constant =
    turned p output feedback (sbox ((x + constant) % p)) window

-- all rounds, from a state to a state
unfoldable pub short_rounds : ℕ → (ℕ → ℕ) → ShortRounds → List ℕ → List ℕ
short_rounds p sbox r xs =
    let start = on_tail (matrix_product p r.into) xs in
    let end = fold (short_round p sbox r.output r.feedback) start r.constants in
    sums p (on_tail (matrix_product p r.back) end) r.offset

-- they are the partial rounds of these rows of constants, for each S-box and each state
abbrev pub AreRounds : ℕ → List (List ℕ) → List (List ℕ) → ShortRounds → Type 0
AreRounds p mds rows r =
    (length r.output ≡ length mds)
    × ((sbox : ℕ → ℕ) (xs : List ℕ) → length xs ≡ length mds → All (λ n. n < p) xs
    → short_rounds p sbox r xs ≡ poseidon_rounds p sbox mds 1 rows xs)

-- ---- why they are

-- a row, as numbers times rows
abbrev pub IsCombination : ℕ → List ℕ → List (List ℕ) → List ℕ → Type 0
IsCombination p factors rows row =
    (xs : List ℕ) → dot_product row xs % p ≡ dot_product factors (matrix_product p rows xs) % p

-- a matrix times a matrix
abbrev pub IsProduct : ℕ → List (List ℕ) → List (List ℕ) → List (List ℕ) → Type 0
IsProduct p first second product =
    (xs : List ℕ) → matrix_product p product xs ≡ matrix_product p first (matrix_product p second xs)

-- a matrix takes back what another did to n numbers
abbrev pub TakesBack : ℕ → ℕ → List (List ℕ) → List (List ℕ) → Type 0
TakesBack p n back into =
    (xs : List ℕ) → length xs ≡ n → All (λ x. x < p) xs → matrix_product p back (matrix_product p into xs) ≡ xs

-- the matrix does to an image and other numbers what a round does to the image and their window
abbrev pub TurnsAlike : ℕ → List (List ℕ) → List (List ℕ) → List ℕ → List ℕ → Type 0
TurnsAlike p mds into output feedback =
    (image : ℕ) (xs : List ℕ)
    → on_tail (matrix_product p into) (matrix_product p mds (image ∷ xs))
    ≡ turned p output feedback image (matrix_product p into xs)

-- one round whose constant is added to the first number alone
abbrev pub plain_round : ℕ → (ℕ → ℕ) → List (List ℕ) → List ℕ → ℕ → List ℕ
plain_round p sbox mds [] constant = []
plain_round p sbox mds (x ∷ xs) constant = matrix_product p mds (sbox ((x + constant) % p) ∷ xs)

-- A row of constants, added before a round to a state that already lacks an offset, is one constant there, and another
-- offset behind it.
abbrev pub MovesOne : ℕ → List (List ℕ) → List ℕ → List ℕ → ℕ → List ℕ → Type 0
MovesOne p mds row offset constant next =
    (sbox : ℕ → ℕ) (xs : List ℕ) → length xs ≡ length mds
    → sums p (plain_round p sbox mds xs constant) next ≡ poseidon_round p sbox mds 1 (sums p xs offset) row

-- the constants of rows, moved: one for each round, and what is added to the state behind them
abbrev pub AreMoved : ℕ → List (List ℕ) → List (List ℕ) → List ℕ → List ℕ → Type 0
AreMoved p mds rows constants offset =
    (sbox : ℕ → ℕ) (xs : List ℕ) → length xs ≡ length mds → All (λ n. n < p) xs
    → sums p (fold (plain_round p sbox mds) xs constants) offset ≡ poseidon_rounds p sbox mds 1 rows xs
