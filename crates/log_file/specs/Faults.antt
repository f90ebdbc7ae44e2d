-- Why there is no answer.
use Rattle.std.specs.Prelude.{◌≡◌, ◌⊎◌, ℕ, nat_lt, not, ◌&&◌, Bool, if◌then◌else◌, List, length, take, Option, Some, None, unwrap_or, Result, Ok, Err, MatchResult}
use Rattle.std.specs.Str.{bytes_eq}
use Rattle.ark_base.specs.Outcome.{◌>>=◌}
use Rattle.ark_base.specs.declared.error.Error.{Error}
use Rattle.ark_base.specs.declared.error.Error.TheVariants.{OutOfMemory, IncorrectInputLength, NotPrimeOrder, GenericError, SerializationError}
use Rattle.merkle_log.specs.Kept.{has_front}
use Rattle.log_file.specs.LogFile.{digest_count, file_head, title}
use Rattle.log_file.specs.declared.fault.Fault.{Fault}
use Rattle.log_file.specs.declared.fault.Fault.TheVariants.{HeadDamaged, Length, Memory, NoLog, Short, Size}

-- an error of a check, where index and sizes are good: the proof has another length
abbrev pub fault_of : Error → Fault
fault_of OutOfMemory = Memory
fault_of (SerializationError error) = Length
fault_of (IncorrectInputLength n) = Length
fault_of (GenericError refusal) = Length
fault_of NotPrimeOrder = Length

-- The call gives the outcome, its value seen by view, or a request for memory was refused.
abbrev pub FileGivesBy : {A B : Type 0} → (A → B) → Result B Fault → Result A Fault → Type 0
FileGivesBy view outcome result =
    MatchResult result (λ value. outcome ≡ Ok (view value)) (λ fault. (fault ≡ Memory) ⊎ (outcome ≡ Err fault))

-- goes on where a condition holds; else the error
abbrev pub only_if : {A E : Type 0} → Bool → E → Result A E → Result A E
only_if holds error next = if holds then next else Err error

-- whether a log of some size has a proof that it continues one of an old size
abbrev pub is_older : ℕ → ℕ → Bool
is_older old_size size = nat_lt 0 old_size && not (nat_lt size old_size)

-- why a file has no head: it has the title and no whole slot, or it is no log's
abbrev pub no_head : List ℕ → Fault
no_head file = if nat_lt (length file) 96 then NoLog else if bytes_eq (take 32 file) title then HeadDamaged else NoLog

-- a size, where there are as many digests as its log has stored
abbrev pub size_with : Fault → Option (ℕ × Bool) → ℕ → Result ℕ Fault
size_with fault None count = Err fault
size_with fault (Some (size, second)) count = only_if (has_front size count) Short (Ok size)

-- the size of the log of a file
abbrev pub log_size : List ℕ → Result ℕ Fault
log_size file = size_with (no_head file) (file_head file) (digest_count file)

-- what is given of the first entries of the log of a file, as many as are named or else all
abbrev pub of_first : {A : Type 0} → List ℕ → Option ℕ → (ℕ → Result A Fault) → Result A Fault
of_first file named given = do
  size ← log_size file
  only_if (not (nat_lt size (unwrap_or named size))) Size (given (unwrap_or named size))
