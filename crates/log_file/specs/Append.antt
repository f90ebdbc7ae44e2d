-- An append to the file of a log.
use Rattle.std.specs.Prelude.{◌≡◌, ℕ, ◌+◌, ◌^◌, ◌++◌, nat_lt, List, length, Result, Ok}
use Rattle.std.specs.List.{flat_map, AllByRecursion}
use Rattle.ark_base.specs.Digits.{itself, AreBytes}
use Rattle.ark_base.specs.Outcome.{◌>>=◌}
use Rattle.ark_paths.specs.Pair.{Digest}
use Rattle.merkle_log.specs.Kept.{Keeps}
use Rattle.merkle_log.specs.Stored.{stored_count}
use Rattle.log_file.specs.Faults.{log_size, only_if}
use Rattle.log_file.specs.declared.fault.Fault.{Fault}
use Rattle.log_file.specs.declared.fault.Fault.TheVariants.{Size}

-- the size that the log of a file has with so many entries more
abbrev pub appended_size : List ℕ → ℕ → Result ℕ Fault
appended_size file count = do
  size ← log_size file
  only_if (nat_lt (size + count) (2 ^ 63)) Size (Ok (size + count))

-- The bytes are those of digests that stand behind the stored ones of a log with more leaves.
pub record HasBehind (leaves stored more : List Digest) (bytes : List ℕ) : Type 0 where
  pub new : List Digest
  pub are_bytes : AllByRecursion (AreBytes 32) new
  pub is : bytes ≡ flat_map itself new
  pub count : stored_count (length leaves) + length new ≡ stored_count (length leaves + length more)
  pub keeps : Keeps (leaves ++ more) (stored ++ new)
