-- What proofs show that stand in hexadecimal.
use Rattle.std.specs.Prelude.{ℕ, List, Bool, Result, Ok, Err}
use Rattle.hex.specs.Hex.{decode_of}
use Rattle.hex.specs.declared.error.FromHexError.{FromHexError}
use Rattle.ark_base.specs.Outcome.{Outcome, ◌>>=◌}
use Rattle.ark_paths.specs.Pair.{Digest}
use Rattle.log_file.specs.Faults.{fault_of}
use Rattle.log_file.specs.Shown.{continuing_shown, entry_shown}
use Rattle.log_file.specs.declared.fault.Fault.{Fault}
use Rattle.log_file.specs.declared.fault.Fault.TheVariants.{Index, Size, Word}

-- a verdict with such faults
abbrev pub with_fault : Outcome Bool → Result Bool Fault
with_fault (Ok holds) = Ok holds
with_fault (Err error) = Err (fault_of error)

-- the bytes that a word spells in hexadecimal
abbrev pub in_hex : Result (List ℕ) FromHexError → Result (List ℕ) Fault
in_hex (Ok bytes) = Ok bytes
in_hex (Err error) = Err Word

-- whether the path that a word spells shows an entry at an index of the log with this root and size
abbrev pub entry_shown_by : Digest → ℕ → ℕ → List ℕ → List ℕ → Result Bool Fault
entry_shown_by root size index entry word =
    in_hex (decode_of word) >>= entry_shown Index with_fault root size index entry

-- whether the consistency proof that a word spells shows that the log with one root and size continues another
abbrev pub continuing_shown_by : ℕ → Digest → ℕ → Digest → List ℕ → Result Bool Fault
continuing_shown_by old_size old size new word =
    in_hex (decode_of word) >>= continuing_shown Size with_fault old_size old size new
