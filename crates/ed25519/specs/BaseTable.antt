-- The multiples of the base point that signing adds up, by computation.
use Rattle.std.specs.Prelude.{ℕ, zero, suc, ◌+◌, ◌-◌, ◌*◌, ◌%◌, ◌^◌, List, [], ◌∷◌}
use Rattle.edwards.specs.Edwards.{Coordinates}
use Rattle.edwards.specs.Laws.Ladder.{quick_sum}
use Rattle.edwards.specs.Entries.{couples}
use Rattle.ed25519.specs.Edwards25519.{p, d, base_point}
use Rattle.ed25519.specs.Laws.Curve.{ed25519_is_complete}

-- what the field keeps for a number
abbrev pub in_montgomery_form : ℕ → ℕ
in_montgomery_form n = n * 2 ^ 256 % p

-- y - x, y + x and 2 d x y as the field keeps them
abbrev pub prepared_words : Coordinates → List (List ℕ)
prepared_words a = couples (in_montgomery_form (a.y + (p - a.x)))
    (couples (in_montgomery_form (a.y + a.x)) (couples (in_montgomery_form (2 * d * a.x * a.y)) []))

-- the sum, with inverses that are computed
abbrev pub quick : Coordinates → Coordinates → Coordinates
quick a b = quick_sum p d ed25519_is_complete a b

-- doubled n times
abbrev pub doubled : ℕ → Coordinates → Coordinates
doubled zero a = a
doubled (suc n) a = doubled n (quick a a)

-- a point, and n - 1 more, each by a step more than the one before it
abbrev pub entries : ℕ → Coordinates → Coordinates → List (List (List ℕ))
entries zero a step = []
entries (suc n) a step = prepared_words a ∷ entries n (quick a step) step

-- the multiples of a point by 1 to 15
unfoldable pub multiples_row : Coordinates → List (List (List ℕ))
multiples_row a = entries 15 a a

-- n rows, each of 65536 times the point of the row before it
abbrev pub rows : ℕ → Coordinates → List (List (List (List ℕ)))
rows zero a = []
rows (suc n) a = multiples_row a ∷ rows n (doubled 16 a)

-- four rows from 2 ^ n times the base point on
unfoldable pub four_rows_from : ℕ → List (List (List (List ℕ)))
four_rows_from n = rows 4 (doubled n base_point)

-- 65536 ^ i times the base point
unfoldable pub row_unit : ℕ → Coordinates
row_unit i = doubled (16 * i) base_point
