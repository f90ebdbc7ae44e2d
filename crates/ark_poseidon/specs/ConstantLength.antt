-- Poseidon's sponge with the domain ConstantLength, as halo2 has it, and Orchard hashes (Zcash protocol specification,
-- section 5.4.1.10): the capacity stands behind the rate, and holds how many elements are hashed.
use Rattle.std.specs.Prelude.{ℕ, ◌*◌, ◌%◌, ◌^◌, ◌==◌, if◌then◌else◌, List, [], ◌∷◌, ◌++◌, length, take, fold, replicate, Ok, Err}
use Rattle.ark_base.specs.declared.error.Error.TheVariants.{GenericError, IncorrectInputLength}
use Rattle.ark_base.specs.declared.error.Refusal.TheVariants.{ParameterShape}
use Rattle.ark_base.specs.Outcome.{Outcome}
use Rattle.ark_sponge.specs.Permutation.{Parameters, sums, permutation}
use Rattle.ark_sponge.specs.Duplex.{blocks_of_rate}

-- the state at first: zeros, and behind them the count of elements times 2^64
abbrev pub constant_length_start : ℕ → ℕ → ℕ → List ℕ
constant_length_start p rate count = replicate rate 0 ++ (count * 2 ^ 64 % p ∷ [])

-- each block of the rate is added to the front of the state, which is then permuted
unfoldable pub state_adding : ℕ → (List ℕ → List ℕ) → ℕ → List ℕ → List ℕ → List ℕ
state_adding p permute rate state xs = fold (λ s block. permute (sums p s block)) state (blocks_of_rate rate xs)

-- The hash of some elements, of parameters whose capacity is one element: the first number of the state that all blocks
-- leave. Or why there is none.
abbrev pub constant_length_outcome : ℕ → (ℕ → ℕ → ℕ) → Parameters → List ℕ → Outcome (List ℕ)
constant_length_outcome p sbox c xs =
    if c.capacity == 1
    then (
    if length xs == 0
    then Err (IncorrectInputLength 0)
    else
    Ok (take 1
    (state_adding p (permutation p sbox c) c.rate (constant_length_start p c.rate (length xs)) xs))
    )
    else Err (GenericError ParameterShape)
