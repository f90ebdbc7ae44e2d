-- What a permutation runs by, as one list of numbers: the constants and the matrix of the full rounds, and the
-- recurrence of the partial ones.
use Rattle.std.specs.Prelude.{◌≡◌, ℕ, zero, suc, ◌+◌, ◌-◌, ◌*◌, ◌/◌, ◌<◌, ◌≤◌, List, [], ◌∷◌, length, take, drop, All}
use Rattle.ark_sponge.specs.Permutation.{Parameters, width, poseidon_rounds, permutation}
use Rattle.ark_sponge.specs.Recurrence.{ShortRounds, short_rounds}
use Rattle.ark_sponge.specs.declared.poseidon.table.shape.TableShape.{TableShape}

-- ---- a permutation whose partial rounds are a recurrence

-- what it runs by: the exponent of the S-box, the matrix, the constants of the full rounds before the partial ones and
-- behind them, and the partial rounds
pub record ShortParts : Type 0 where
  pub alpha : ℕ
  pub mds : List (List ℕ)
  pub first : List (List ℕ)
  pub partial : ShortRounds
  pub last : List (List ℕ)

-- the permutation: full rounds, the recurrence, full rounds
unfoldable pub short_permutation : ℕ → (ℕ → ℕ → ℕ) → ShortParts → List ℕ → List ℕ
short_permutation p sbox t xs =
    let first = poseidon_rounds p (sbox t.alpha) t.mds (length t.mds) t.first xs in
    let partial = short_rounds p (sbox t.alpha) t.partial first in
    poseidon_rounds p (sbox t.alpha) t.mds (length t.mds) t.last partial

-- It is the permutation of some parameters.
pub record IsShortOf (p : ℕ) (c : Parameters) (t : ShortParts) : Type 0 where
  pub wide : length t.mds ≡ width c
  pub same : (sbox : ℕ → ℕ → ℕ) (xs : List ℕ) → length xs ≡ width c → All (λ x. x < p) xs
      → short_permutation p sbox t xs ≡ permutation p sbox c xs

-- ---- as a list

-- so many rows of so many numbers, one behind the other in a list
unfoldable pub rows_of : ℕ → ℕ → List ℕ → List (List ℕ)
rows_of width zero xs = []
rows_of width (suc count) xs = take width xs ∷ rows_of width count (drop width xs)

-- how many numbers of a recurrence stand before its constants, for a state of so many elements
abbrev pub recurrence_length : ℕ → ℕ
recurrence_length width =
    let n = width - 1 in
    n * n + (n * n + (width + (n + width)))

-- the recurrence that a list is: the two matrices, output, feedback, what is added at the end, and the constants
unfoldable pub recurrence_in : ℕ → List ℕ → ShortRounds
recurrence_in width xs =
    let n = width - 1 in
    let back = drop (n * n) xs in
    let output = drop (n * n) back in
    let feedback = drop width output in
    let offset = drop n feedback in
    record {
      output = take width output;
      feedback = take n feedback;
      into = rows_of n n xs;
      back = rows_of n n back;
      constants = drop width offset;
      offset = take width offset;
    }

-- The list is the recurrence, whose state has as many elements as its output.
pub record IsListed (r : ShortRounds) (xs : List ℕ) : Type 0 where
  pub long : recurrence_length (length r.output) ≤ length xs
  pub whole : recurrence_in (length r.output) xs ≡ r

-- how many numbers of a table stand before the constants of the partial rounds
abbrev pub table_length : TableShape → ℕ
table_length s = s.before * s.width + (s.width * s.width + (s.behind * s.width + recurrence_length s.width))

-- The permutation that a table is: the constants of the first full rounds, the matrix, the constants of the last full
-- rounds, and the recurrence.
unfoldable pub parts_in : TableShape → List ℕ → ShortParts
parts_in s xs =
    let mds = drop (s.before * s.width) xs in
    let last = drop (s.width * s.width) mds in
    record {
      alpha = s.alpha;
      mds = rows_of s.width s.width mds;
      first = rows_of s.width s.before xs;
      partial = recurrence_in s.width (drop (s.behind * s.width) last);
      last = rows_of s.width s.behind last;
    }

-- the shape of the table of parameters
abbrev pub shape_of : Parameters → TableShape
shape_of c = record {
  alpha = c.alpha;
  width = width c;
  before = c.full_rounds / 2;
  behind = c.full_rounds - c.full_rounds / 2;
}

-- The list is a table of the parameters.
pub record IsTable (p : ℕ) (c : Parameters) (xs : List ℕ) : Type 0 where
  pub long : table_length (shape_of c) ≤ length xs
  pub short : IsShortOf p c (parts_in (shape_of c) xs)
