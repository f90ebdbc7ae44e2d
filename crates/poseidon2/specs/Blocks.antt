-- States as blocks of four numbers: what the layers that add in place of multiplying do to them.
use Rattle.std.specs.Prelude.{ℕ, zero, suc, ◌+◌, ◌%◌, List, [], ◌∷◌, get_or, drop}
use Rattle.ark_groups.specs.Field.{dot_product}

-- each of the first n blocks replaced: g gives the number at each of the four places, of the block's four numbers
abbrev pub front_blocks : (ℕ → ℕ → ℕ → ℕ → ℕ → ℕ) → ℕ → List ℕ → List ℕ
front_blocks g zero xs = xs
front_blocks g (suc n) xs =
    let at = λ (c : ℕ). g c (get_or xs 0 0) (get_or xs 1 0) (get_or xs 2 0) (get_or xs 3 0) in
    at 0 ∷ at 1 ∷ at 2 ∷ at 3 ∷ front_blocks g n (drop 4 xs)

-- a row of a matrix times four numbers, modulo p
abbrev pub row_times : ℕ → (ℕ → List ℕ) → ℕ → ℕ → ℕ → ℕ → ℕ → ℕ
row_times p row c x0 x1 x2 x3 = dot_product (row c) (x0 ∷ x1 ∷ x2 ∷ x3 ∷ []) % p

-- four numbers added to four others, place by place, modulo p
abbrev pub sum_at : ℕ → ℕ → ℕ → ℕ → ℕ → ℕ → ℕ → ℕ → ℕ → ℕ → ℕ
sum_at p s0 s1 s2 s3 zero x0 x1 x2 x3 = (x0 + s0) % p
sum_at p s0 s1 s2 s3 (suc zero) x0 x1 x2 x3 = (x1 + s1) % p
sum_at p s0 s1 s2 s3 (suc (suc zero)) x0 x1 x2 x3 = (x2 + s2) % p
sum_at p s0 s1 s2 s3 (suc (suc (suc c))) x0 x1 x2 x3 = (x3 + s3) % p

-- the sum of the numbers at one place of each of the first n blocks
abbrev pub column : ℕ → ℕ → List ℕ → ℕ
column c zero xs = 0
column c (suc n) xs = get_or xs c 0 + column c n (drop 4 xs)
