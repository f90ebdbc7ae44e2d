-- Faults of a log's file.
use Rattle.std.proofs.Common.{◌≡◌, ℕ, List, Option, Result, Ok, Err, refl, inl, inr}
use Rattle.ark_paths.specs.Pair.{Digest}
use Rattle.log_file.specs.Faults.{log_size, of_first}
use Rattle.log_file.specs.declared.fault.Fault as fault_of_files
use Rattle.log_file.specs.declared.fault.Fault.TheVariants.{Damaged}
use Rattle.log_file.specs.LogFile.{IsLogFile}
use Rattle.log_file.proofs.Sizes.{given-refused}
use Rattle.log_store.specs.Refused.{IsRefusedFor}
use Rattle.log_store.specs.declared.stop.Stop.{Stop}
use Rattle.log_store.specs.declared.stop.Stop.TheVariants.{Fault, Disk}

-- a fault of the file before the sizes are compared
pub refused-first : (A B : Type 0) {R : Type 0} (file : List ℕ) (named : Option ℕ) (stop : Stop R)
    → IsRefusedFor {A = A} file (log_size file) (Err stop) → IsRefusedFor {A = B} file (of_first file named Ok)
    (Err stop)
refused-first A B file named (Fault fault) (inl memory) = inl memory
refused-first A B file named (Fault fault) (inr (inl is)) = inr (inl (rw (is) refl))
refused-first A B file named (Fault fault) (inr (inr damaged)) = inr (inr damaged)
refused-first A B file named (Disk refusal) known = tt

-- a fault of the file before a size is given
pub refused-given : (A B : Type 0) {C R : Type 0} (file : List ℕ) (named : Option ℕ)
    (given : ℕ → Result C fault_of_files.Fault) (stop : Stop R)
    → IsRefusedFor {A = A} file (of_first file named Ok) (Err stop)
    → IsRefusedFor {A = B} file (of_first file named given) (Err stop)
refused-given A B file named given (Fault fault) (inl memory) = inl memory
refused-given A B file named given (Fault fault) (inr (inl is)) =
    inr (inl (given-refused given named file fault is))
refused-given A B file named given (Fault fault) (inr (inr damaged)) = inr (inr damaged)
refused-given A B file named given (Disk refusal) known = tt

-- a file that is told to be damaged is that of no log
pub damaged-none : (A : Type 0) {R : Type 0} (file : List ℕ) (stop : Stop R) → stop ≡ Fault Damaged
    → IsRefusedFor {A = A} file (log_size file) (Err stop) → (leaves : List Digest) → IsLogFile leaves file → ⊥
damaged-none A file (Fault fault) is (inl memory) leaves log = absurd cc
damaged-none A file (Fault fault) is (inr (inl known)) leaves log =
    let clash = rw (log.head, log.whole) at known in absurd cc
damaged-none A file (Fault fault) is (inr (inr damaged)) leaves log = damaged.1 leaves log
damaged-none A file (Disk refusal) is known leaves log = absurd cc
