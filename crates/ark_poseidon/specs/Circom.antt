-- The hash of circomlib: what its template Poseidon gives.
use Rattle.std.specs.Prelude.{ℕ, ◌==◌, if◌then◌else◌, List, ◌∷◌, length, take, Ok, Err}
use Rattle.ark_base.specs.declared.error.Error.TheVariants.{GenericError, IncorrectInputLength}
use Rattle.ark_base.specs.declared.error.Refusal.TheVariants.{ParameterShape}
use Rattle.ark_base.specs.Outcome.{Outcome}
use Rattle.ark_sponge.specs.Permutation.{Parameters, permutation}

-- the first number of the permutation of a zero and the inputs
abbrev pub first_permuted : ℕ → (ℕ → ℕ → ℕ) → Parameters → List ℕ → List ℕ
first_permuted p sbox c xs = take 1 (permutation p sbox c (0 ∷ xs))

-- The hash of as many inputs as the rate says, of parameters whose capacity is one element; or why there is none.
abbrev pub circom_outcome : ℕ → (ℕ → ℕ → ℕ) → Parameters → List ℕ → Outcome (List ℕ)
circom_outcome p sbox c xs =
    if c.capacity == 1
    then (if length xs == c.rate then Ok (first_permuted p sbox c xs) else Err (IncorrectInputLength (length xs)))
    else Err (GenericError ParameterShape)
