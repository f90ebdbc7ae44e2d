-- How deployments hash with the permutation (Plonky3, `symmetric`): two digests by a permutation cut short, and lists
-- by a sponge that pads nothing.
use Rattle.std.specs.Prelude.{ℕ, ◌+◌, ◌-◌, ◌==◌, ◌&&◌, nat_lt, Bool, if◌then◌else◌, List, ◌++◌, length, take, drop, fold, replicate, Ok, Err}
use Rattle.ark_base.specs.declared.error.Error.TheVariants.{GenericError}
use Rattle.ark_base.specs.declared.error.Refusal.TheVariants.{ParameterShape}
use Rattle.ark_base.specs.Outcome.{Outcome}
use Rattle.ark_sponge.specs.Duplex.{blocks_of_rate}
use Rattle.poseidon2.specs.Permutation.{Poseidon2Parameters, poseidon2_permutation}

-- ---- two digests

-- left, right, and zeros up to the width
abbrev pub both_and_zeros : ℕ → List ℕ → List ℕ → List ℕ
both_and_zeros width left right = left ++ (right ++ replicate (width - (length left + length right)) 0)

-- two digests of one length, that are not longer than a state
abbrev pub are_halves : ℕ → List ℕ → List ℕ → Bool
are_halves width left right = (length left == length right) && nat_lt (length left + length right) (width + 1)

-- The hash of two digests of one length: as many numbers of the front of the permutation of both and zeros
-- (`TruncatedPermutation`).
abbrev pub compressed_digests : ℕ → (ℕ → ℕ → ℕ) → (ℕ → List ℕ) → Poseidon2Parameters → List ℕ → List ℕ
    → Outcome (List ℕ)
compressed_digests p sbox row c left right =
    let width = length c.diagonal in
    if are_halves width left right
    then Ok (take (length left) (poseidon2_permutation p sbox row c (both_and_zeros width left right)))
    else Err (GenericError ParameterShape)

-- ---- lists

-- a block takes the place of the front of a state
abbrev pub overwritten : List ℕ → List ℕ → List ℕ
overwritten state block = block ++ drop (length block) state

-- each block of the rate takes the place of the front of the state, which is then permuted
unfoldable pub state_overwriting : (List ℕ → List ℕ) → ℕ → List ℕ → List ℕ → List ℕ
state_overwriting permute rate state xs =
    fold (λ s block. permute (overwritten s block)) state (blocks_of_rate rate xs)

-- a rate that is not 0 and no longer than a state, and a digest no longer than a state
abbrev pub fits_padding_free : ℕ → ℕ → ℕ → Bool
fits_padding_free width rate count = nat_lt 0 rate && nat_lt rate (width + 1) && nat_lt count (width + 1)

-- The hash of a list: the front of the state that its blocks leave, which is zeros at first (`PaddingFreeSponge`). Two
-- lists of which one is the other with zeros behind it may have one hash: it is meant for lists of one length.
abbrev pub padding_free_hash : ℕ → (ℕ → ℕ → ℕ) → (ℕ → List ℕ) → Poseidon2Parameters → ℕ → ℕ → List ℕ → Outcome (List ℕ)
padding_free_hash p sbox row c rate count xs =
    let width = length c.diagonal in
    if fits_padding_free width rate count
    then Ok (take count (state_overwriting (poseidon2_permutation p sbox row c) rate (replicate width 0) xs))
    else Err (GenericError ParameterShape)
