-- The hash of two elements that is a permutation cut short.
use Rattle.std.specs.Prelude.{ℕ, ◌-◌, List, ◌++◌, length, take, replicate, Ok, Err}
use Rattle.ark_base.specs.declared.error.Error.TheVariants.{GenericError}
use Rattle.ark_base.specs.declared.error.Refusal.TheVariants.{SetupNotAvailable}
use Rattle.ark_base.specs.Outcome.{Outcome}
use Rattle.rand_core.specs.Stream.{Stream}
use Rattle.poseidon2.specs.Permutation.{Poseidon2Parameters, poseidon2_permutation}

-- the first number of the permutation of left and right, with zeros behind them up to the width
abbrev pub truncated_permutation : ℕ → (ℕ → ℕ → ℕ) → (ℕ → List ℕ) → Poseidon2Parameters → List ℕ → List ℕ → List ℕ
truncated_permutation p sbox row c left right =
    take 1 (poseidon2_permutation p sbox row c (left ++ (right ++ replicate (length c.diagonal - 2) 0)))

-- the hash of two lists of one number each: that number, and never a refusal
abbrev pub poseidon2_hash : ℕ → (ℕ → ℕ → ℕ) → (ℕ → List ℕ) → Poseidon2Parameters → List ℕ → List ℕ → Outcome (List ℕ)
poseidon2_hash p sbox row c left right = Ok (truncated_permutation p sbox row c left right)

-- a setup draws no parameters: they are chosen by hand
abbrev pub setup_refused : Outcome Stream
setup_refused = Err (GenericError SetupNotAvailable)
