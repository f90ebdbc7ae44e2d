-- A log's file of which one slot may be lost.
use Rattle.std.proofs.Common.{inl, inr, ℕ, Bool, List, length, arith}
use Rattle.ark_paths.specs.Pair.{Digest}
use Rattle.log_file.specs.LogFile.{IsLogFile}
use Rattle.log_file.proofs.Files.{known, slot-torn, Holds}
use Rattle.log_file.proofs.Heads.{is_headed, Uses}
use Rattle.log_store.specs.Store.{HasSpare, IsWithout}

-- The slot in use has the log, whatever stands in the place of the other one.
pub without-used : (leaves : List Digest) (root : Digest) (file : List ℕ) (second : Bool)
    → Uses file (length leaves) root second → Holds leaves root file → IsWithout leaves second file
without-used leaves root file second uses has part long = elim (slot-torn leaves root file part second uses long has) [
  | inl same ↦ inl same
  | inr larger ↦ inr (
    larger.0,
    larger.3.0,
    is_headed _ larger.0 larger.3.0 larger.3.1,
    larger.2,
    λ same. omega (arith, larger.2, same),
  )
]

pub spare-log : (leaves : List Digest) (file : List ℕ) → IsLogFile leaves file → HasSpare leaves file
spare-log leaves file log =
    let is = known leaves file log in
    (is.free, without-used leaves is.root file is.free is.uses is.holds)
