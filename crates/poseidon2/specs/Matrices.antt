-- The matrices of Poseidon2 (Grassi, Khovratovich, Schofnegger 2023, "Poseidon2: A Faster Version of the Poseidon Hash
-- Function"), row by row.
use Rattle.std.specs.Prelude.{ℕ, zero, suc, ◌+◌, ◌*◌, ◌/◌, ◌==◌, nat_lt, if◌then◌else◌, List, [], ◌∷◌, ◌++◌, length, map, replicate}

-- ---- ones, and a diagonal

-- a row of n ones, where a number is added to the one at place i
abbrev pub ones_plus : ℕ → ℕ → ℕ → List ℕ
ones_plus zero i d = []
ones_plus (suc n) zero d = (1 + d) ∷ replicate n 1
ones_plus (suc n) (suc i) d = 1 ∷ ones_plus n i d

-- such a row for each number of a list: the first has its number at place i, the next at the place behind
abbrev pub ones_plus_from : ℕ → ℕ → List ℕ → List (List ℕ)
ones_plus_from n i [] = []
ones_plus_from n i (d ∷ ds) = ones_plus n i d ∷ ones_plus_from n (suc i) ds

-- The matrix of the partial rounds: ones, with a diagonal added. The list is the matrix's diagonal less 1.
abbrev pub internal_matrix : List ℕ → List (List ℕ)
internal_matrix ds = ones_plus_from (length ds) 0 ds

-- ---- blocks of four by four

-- a row k times, one behind the other
abbrev pub repeated_row : ℕ → List ℕ → List ℕ
repeated_row zero row = []
repeated_row (suc k) row = row ++ repeated_row k row

-- a row k times, with twice the row at place b
abbrev pub block_row : ℕ → ℕ → List ℕ → List ℕ
block_row zero b row = []
block_row (suc k) zero row = map (λ m. 2 * m) row ++ repeated_row k row
block_row (suc k) (suc b) row = row ++ block_row k b row

-- the four rows of a matrix whose row at each place is given
abbrev pub four_rows : (ℕ → List ℕ) → List (List ℕ)
four_rows row = row 0 ∷ row 1 ∷ row 2 ∷ row 3 ∷ []

-- n rows of k blocks each, the first with the double at place b, the next at the place behind
abbrev pub rows_of_blocks : (ℕ → List ℕ) → ℕ → ℕ → ℕ → List (List ℕ)
rows_of_blocks row k b zero = []
rows_of_blocks row k b (suc n) = map (block_row k b) (four_rows row) ++ rows_of_blocks row k (suc b) n

-- circ(2 M, M, .., M), k by k blocks of the matrix M of four by four
abbrev pub block_circulant : (ℕ → List ℕ) → ℕ → List (List ℕ)
block_circulant row k = rows_of_blocks row k 0 k

-- The matrix of the full rounds, by the width of a state: circ(2, 1) and circ(2, 1, 1) for two and three elements, M
-- for four, circ(2 M, M, .., M) for a larger multiple of four.
unfoldable pub external_matrix : (ℕ → List ℕ) → ℕ → List (List ℕ)
external_matrix row width =
    if nat_lt width 4 then internal_matrix (replicate width 1)
    else if width == 4 then four_rows row
    else block_circulant row (width / 4)

-- ---- matrices of four by four, by their rows

-- the matrix M4 of the paper
abbrev pub paper_row : ℕ → List ℕ
paper_row zero = 5 ∷ 7 ∷ 1 ∷ 3 ∷ []
paper_row (suc zero) = 4 ∷ 6 ∷ 1 ∷ 1 ∷ []
paper_row (suc (suc zero)) = 1 ∷ 3 ∷ 5 ∷ 7 ∷ []
paper_row (suc (suc (suc c))) = 1 ∷ 1 ∷ 4 ∷ 6 ∷ []

-- circ(2, 3, 1, 1)
abbrev pub circulant_row : ℕ → List ℕ
circulant_row zero = 2 ∷ 3 ∷ 1 ∷ 1 ∷ []
circulant_row (suc zero) = 1 ∷ 2 ∷ 3 ∷ 1 ∷ []
circulant_row (suc (suc zero)) = 1 ∷ 1 ∷ 2 ∷ 3 ∷ []
circulant_row (suc (suc (suc c))) = 3 ∷ 1 ∷ 1 ∷ 2 ∷ []
