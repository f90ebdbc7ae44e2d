-- Parameters whose constants are the Grain LFSR's.
use Rattle.std.specs.Prelude.{ℕ, if◌then◌else◌, List, [], ◌∷◌, length, Err}
use Rattle.ark_base.specs.declared.error.Error.TheVariants.{GenericError}
use Rattle.ark_base.specs.declared.error.Refusal.TheVariants.{ParameterShape}
use Rattle.ark_base.specs.Outcome.{Outcome}
use Rattle.poseidon_grain.specs.Constants.{counts_fit}
use Rattle.poseidon_grain.specs.Poseidon2.{poseidon2_drawn}
use Rattle.poseidon2.specs.Permutation.{Poseidon2Parameters, lawful_poseidon2}

-- an exponent and a diagonal with the constants that are drawn for its width and these counts of full and partial
-- rounds, below a modulus of so many digits
abbrev pub drawn_parameters : ℕ → ℕ → ℕ → ℕ → ℕ → List ℕ → Poseidon2Parameters
drawn_parameters p digits alpha full partial diagonal =
    let made = poseidon2_drawn p digits (length diagonal) full partial in
    record {
      alpha = alpha;
      first = made.first;
      partial = made.partial;
      last = made.last;
      diagonal = diagonal;
    }

-- these, or why they are refused: counts that the generator does not take, or another width than a state has
abbrev pub drawn_outcome : ℕ → ℕ → ℕ → ℕ → ℕ → List ℕ → Outcome Poseidon2Parameters
drawn_outcome p digits alpha full partial diagonal =
    if counts_fit (length diagonal) full partial 0
    then lawful_poseidon2 (drawn_parameters p digits alpha full partial diagonal)
    else Err (GenericError ParameterShape)

-- Three elements over the scalar field of BN254, as the authors' code has them: fifth powers, eight full rounds and 56
-- partial ones, and the internal matrix with the diagonal 2, 2, 3.
abbrev pub bn254_parameters : ℕ → ℕ → Poseidon2Parameters
bn254_parameters p digits = drawn_parameters p digits 5 8 56 (1 ∷ 1 ∷ 2 ∷ [])
