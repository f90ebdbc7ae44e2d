-- Why a call on a log's file stopped.
use Rattle.std.specs.Prelude.{◌≡◌, ◌⊎◌, ℕ, ◌<◌, nat_lt, false, List, [], length, take, Option, None, Result, Ok, Err}
use Rattle.std.specs.Str.{bytes_eq}
use Rattle.sha2.specs.Sha256.{sha256}
use Rattle.ark_paths.specs.Pair.{Digest}
use Rattle.ark_trees.specs.Rfc6962.{node_of}
use Rattle.merkle_log.specs.Log.{merkle_tree_hash}
use Rattle.log_file.specs.Faults.{is_older, of_first, only_if}
use Rattle.log_file.specs.LogFile.{slots_head, title, IsLogFile}
use Rattle.log_file.specs.declared.fault.Fault.TheVariants.{Damaged, Index, Memory, NoLog, Other, Size}
use Rattle.log_file.specs.declared.fault.Fault as fault_of_files
use Rattle.log_store.specs.declared.stop.Stop.{Stop}
use Rattle.log_store.specs.declared.stop.Stop.TheVariants.{Fault, Disk}

-- The file is that of no log.
abbrev pub IsDamaged : List ℕ → Type 0
IsDamaged file = (leaves : List Digest) → IsLogFile leaves file → ⊥

-- A fault is that of the outcome, or a lack of memory, or the file is damaged.
abbrev pub IsRefusedFor : {A B R : Type 0} → List ℕ → Result B fault_of_files.Fault → Result A (Stop R) → Type 0
IsRefusedFor file outcome (Ok value) = Unit {0}
IsRefusedFor file outcome (Err (Fault fault)) =
    (fault ≡ Memory) ⊎ (outcome ≡ Err fault) ⊎ ((fault ≡ Damaged) × IsDamaged file)
IsRefusedFor file outcome (Err (Disk refusal)) = Unit {0}

-- The file is not that of a log of this size and root.
abbrev pub IsNotOf : List ℕ → ℕ → Digest → Type 0
IsNotOf file size root = (leaves : List Digest) → IsLogFile leaves file → length leaves ≡ size
    → merkle_tree_hash node_of (sha256 []) leaves ≡ Ok root → ⊥

-- The same, or the file is not that of the log of the size and the root after which entries are to be appended.
abbrev pub IsRefusedAfter : {A B R : Type 0} → List ℕ → ℕ → Digest → Result B fault_of_files.Fault
    → Result A (Stop R) → Type 0
IsRefusedAfter file size root outcome result =
    IsRefusedFor file outcome result ⊎ ((result ≡ Err (Fault Other)) × IsNotOf file size root)

-- the size of the first entries of the log of a file, where an index is one of theirs
abbrev pub index_outcome : List ℕ → Option ℕ → ℕ → Result ℕ fault_of_files.Fault
index_outcome file named index = of_first file named (λ size. only_if (nat_lt index size) Index (Ok size))

-- the size of the first entries of the log of a file, where they continue as many as an old size says
abbrev pub older_outcome : List ℕ → Option ℕ → ℕ → Result ℕ fault_of_files.Fault
older_outcome file named old_size = of_first file named (λ size. only_if (is_older old_size size) Size (Ok size))

-- Nothing of the file can be recovered: it is shorter than a head, or has another title and no whole slot.
abbrev pub IsBeyond : List ℕ → Type 0
IsBeyond file = (length file < 96)
    ⊎ ((slots_head file ≡ None) × (bytes_eq (take 32 file) title ≡ false))

-- The only fault is that nothing of the file can be recovered.
abbrev pub IsUnrecovered : {A R : Type 0} → List ℕ → Result A (Stop R) → Type 0
IsUnrecovered file (Ok value) = Unit {0}
IsUnrecovered file (Err (Fault fault)) = (fault ≡ NoLog) × IsBeyond file
IsUnrecovered file (Err (Disk refusal)) = Unit {0}

-- Where a fault is returned this is so.
abbrev pub OnFault : {A R : Type 0} → Result A (Stop R) → Type 0 → Type 0
OnFault (Ok value) P = Unit {0}
OnFault (Err (Fault fault)) P = P
OnFault (Err (Disk refusal)) P = Unit {0}

-- No fault: only a refusal of the disk.
abbrev pub IsOfDisk : {A R : Type 0} → Result A (Stop R) → Type 0
IsOfDisk (Ok value) = Unit {0}
IsOfDisk (Err (Fault fault)) = ⊥
IsOfDisk (Err (Disk refusal)) = Unit {0}

-- The only fault is a lack of memory.
abbrev pub IsOnlyMemory : {A R : Type 0} → Result A (Stop R) → Type 0
IsOnlyMemory (Ok value) = Unit {0}
IsOnlyMemory (Err (Fault fault)) = fault ≡ Memory
IsOnlyMemory (Err (Disk refusal)) = Unit {0}
