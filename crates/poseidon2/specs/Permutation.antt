-- The permutation of Poseidon2, over lists of numbers modulo p, and the shapes that its parameters have.
use Rattle.std.specs.Prelude.{ℕ, ◌%◌, ◌==◌, nat_lt, Bool, ◌&&◌, ◌||◌, if◌then◌else◌, List, [], ◌∷◌, length, map, fold, Ok, Err}
use Rattle.std.specs.List.{list_all}
use Rattle.ark_base.specs.declared.error.Error.TheVariants.{GenericError}
use Rattle.ark_base.specs.declared.error.Refusal.TheVariants.{ParameterShape}
use Rattle.ark_base.specs.Outcome.{Outcome}
use Rattle.ark_sponge.specs.Permutation.{sums, front_images, matrix_product}
use Rattle.poseidon2.specs.Matrices.{external_matrix, internal_matrix}

-- What the permutation is set up with, by its numbers.
pub record Poseidon2Parameters : Type 0 where
  -- the exponent of the S-box
  pub alpha : ℕ
  -- the constants of the full rounds before the partial ones, a row for each round
  pub first : List (List ℕ)
  -- a constant for each partial round
  pub partial : List ℕ
  -- the constants of the full rounds behind the partial ones, a row for each round
  pub last : List (List ℕ)
  -- the diagonal of the internal matrix less 1, a number for each element of a state
  pub diagonal : List ℕ

-- a full round: constants are added, the S-box goes over all numbers, and the external matrix is multiplied
abbrev pub full_round : ℕ → (ℕ → ℕ) → List (List ℕ) → List ℕ → List ℕ → List ℕ
full_round p sbox external xs constants = matrix_product p external (map sbox (sums p xs constants))

-- a partial round: a constant is added to the first number, the S-box goes over it, and the internal matrix is
-- multiplied
abbrev pub partial_round : ℕ → (ℕ → ℕ) → List (List ℕ) → List ℕ → ℕ → List ℕ
partial_round p sbox internal xs constant =
    matrix_product p internal (front_images sbox 1 (sums p xs (constant ∷ [])))

-- a full round for each row of constants
abbrev pub full_rounds : ℕ → (ℕ → ℕ) → List (List ℕ) → List (List ℕ) → List ℕ → List ℕ
full_rounds p sbox external rows xs = fold (full_round p sbox external) xs rows

-- a partial round for each constant
abbrev pub partial_rounds : ℕ → (ℕ → ℕ) → List (List ℕ) → List ℕ → List ℕ → List ℕ
partial_rounds p sbox internal constants xs = fold (partial_round p sbox internal) xs constants

-- The external matrix is multiplied; then the first full rounds, the partial rounds, and the last full rounds. `row`
-- has the rows of M, of four by four.
unfoldable pub poseidon2_permutation : ℕ → (ℕ → ℕ → ℕ) → (ℕ → List ℕ) → Poseidon2Parameters → List ℕ → List ℕ
poseidon2_permutation p sbox row c xs =
    let external = external_matrix row (length xs) in
    let start = matrix_product p external xs in
    let first = full_rounds p (sbox c.alpha) external c.first start in
    let partial = partial_rounds p (sbox c.alpha) (internal_matrix c.diagonal) c.partial first in
    full_rounds p (sbox c.alpha) external c.last partial

-- ---- shapes

-- the permutation is defined for two and three elements, and for each multiple of four above 0
abbrev pub is_width : ℕ → Bool
is_width n = (n == 2) || (n == 3) || (nat_lt 3 n && (n % 4 == 0))

-- each row has so many numbers
abbrev pub are_wide : ℕ → List (List ℕ) → Bool
are_wide width rows = list_all (λ row. length row == width) rows

-- a width as above, and each row of constants as long as a state
abbrev pub has_poseidon2_shape : Poseidon2Parameters → Bool
has_poseidon2_shape c =
    let width = length c.diagonal in
    is_width width && are_wide width c.first && are_wide width c.last

-- Parameters, or why they are refused: another shape.
abbrev pub lawful_poseidon2 : Poseidon2Parameters → Outcome Poseidon2Parameters
lawful_poseidon2 c = if has_poseidon2_shape c then Ok c else Err (GenericError ParameterShape)
