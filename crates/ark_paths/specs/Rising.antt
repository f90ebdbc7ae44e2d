-- Numbers, each once, rising.
use Rattle.std.specs.Prelude.{ℕ, ◌==◌, nat_lt, List, [], ◌∷◌, if◌then◌else◌}

-- a number at its place among rising ones, unless it is one of them
abbrev pub with_number : ℕ → List ℕ → List ℕ
with_number n [] = n ∷ []
with_number n (x ∷ xs) = if nat_lt n x then n ∷ x ∷ xs else (if n == x then x ∷ xs else (x ∷ with_number n xs))

-- numbers, each of them once, rising
abbrev pub rising_set : List ℕ → List ℕ
rising_set [] = []
rising_set (n ∷ numbers) = with_number n (rising_set numbers)
