-- The BLAKE2s commitment.
use Rattle.std.specs.Prelude.{ℕ, ◌+◌, ◌^◌, List, ◌++◌, length, Ok, Err, nat_lt, if◌then◌else◌}
use Rattle.ark_base.specs.Outcome.{Outcome}
use Rattle.ark_base.specs.declared.error.Error.TheVariants.{GenericError}
use Rattle.ark_base.specs.declared.error.Refusal.TheVariants.{LengthOverflow}
use Rattle.ark_schemes.specs.Blake2s.{blake2s}

-- the digest of the bytes followed by 32 bytes of randomness, where that text's length fits 64 bits
abbrev pub blake2s_commitment : List ℕ → List ℕ → Outcome (List ℕ)
blake2s_commitment bytes randomness =
    if nat_lt (length bytes + 32) (2 ^ 64) then Ok (blake2s (bytes ++ randomness))
    else Err (GenericError LengthOverflow)
