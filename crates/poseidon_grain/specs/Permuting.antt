-- Powers that permute a field, and permutations that take different states to different states.
use Rattle.std.specs.Prelude.{◌≡◌, ℕ, ◌-◌, ◌%◌, ◌^◌, ◌<◌, List, length, map, All}
use Rattle.std.specs.Int.{IsGcd}
use Rattle.ark_sponge.specs.Permutation.{Parameters, matrix_product, width, permutation}

-- an exponent has no divisor in common with p - 1
abbrev pub IsPermuting : ℕ → ℕ → Type 0
IsPermuting p alpha = IsGcd alpha (p - 1) 1

-- a function tells numbers below p apart
abbrev pub TellsNumbers : ℕ → (ℕ → ℕ) → Type 0
TellsNumbers p f = (x y : ℕ) → x < p → y < p → f x ≡ f y → x ≡ y

-- numbers below p, as many as are asked for
abbrev pub IsStateOf : ℕ → ℕ → List ℕ → Type 0
IsStateOf p n xs = (length xs ≡ n) × All (λ x. x < p) xs

-- a function tells states of n numbers apart
abbrev pub TellsStates : ℕ → ℕ → (List ℕ → List ℕ) → Type 0
TellsStates p n f = (xs ys : List ℕ) → IsStateOf p n xs → IsStateOf p n ys → f xs ≡ f ys → xs ≡ ys
