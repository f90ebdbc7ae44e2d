-- Hashes of numbers below 257.
use Rattle.std.specs.Prelude.{ℕ, ◌+◌, ◌*◌, ◌%◌, ◌==◌, if◌then◌else◌, [], ◌∷◌, get_or, Ok, Err}
use Rattle.ark_base.specs.declared.error.Error.TheVariants.{GenericError}
use Rattle.ark_base.specs.declared.error.Refusal.TheVariants.{Custom}
use Rattle.ark_base.specs.Outcome.{Outcome}
use Rattle.ark_paths.specs.Pair.{Digest}

-- the number of a digest
abbrev pub toy_number : Digest → ℕ
toy_number digest = get_or digest 0 0

-- a leaf modulo 257; 999 is refused
abbrev pub toy_leaf : ℕ → Outcome Digest
toy_leaf leaf = if leaf == 999 then Err (GenericError (Custom 1)) else Ok (leaf % 257 ∷ [])

-- the first, and twice the second, modulo 257
abbrev pub toy_pair : Digest → Digest → Outcome Digest
toy_pair a b = Ok ((toy_number a + 2 * toy_number b) % 257 ∷ [])

-- the same where the second is not 0; else a refusal with the first
abbrev pub refusing_pair : Digest → Digest → Outcome Digest
refusing_pair a b = if toy_number b == 0 then Err (GenericError (Custom (toy_number a))) else toy_pair a b
