-- The log's file that a file is, by how it lies.
use Rattle.std.specs.Prelude.{◌≡◌, ◌⊎◌, ℕ, ◌&&◌, nat_lt, List, Bool, true, false, if◌then◌else◌, Result, Err}
use Rattle.ark_paths.specs.Pair.{Digest}
use Rattle.log_file.specs.Append.{appended_size}
use Rattle.log_file.specs.Faults.{log_size}
use Rattle.log_file.specs.LogFile.{IsLogFile}
use Rattle.log_file.specs.declared.fault.Fault.{Fault}
use Rattle.log_file.specs.declared.fault.Fault.TheVariants.{HeadDamaged}
use Rattle.log_store.specs.Healing.{AreAlike}
use Rattle.log_store.specs.Sectors.{laid, layout_in}
use Rattle.log_store.specs.Store.{IsSettled}
use Rattle.log_store.specs.declared.sectors.Layout.{Layout}
use Rattle.log_store.specs.declared.sectors.Layout.TheVariants.{Apart, Dense, FirstAlone, SecondAlone}

-- the log's file that a file is
unfoldable pub log_in : List ℕ → List ℕ
log_in file = laid (layout_in file) file

-- The file has the log with these leaf digests, however it lies.
abbrev pub HasLog : List Digest → List ℕ → Type 0
HasLog leaves file = IsLogFile leaves (log_in file)

-- A file lies as another one, and is the same log's file.
pub record IsSameLog (file left : List ℕ) : Type 0 where
  pub layout : layout_in left ≡ layout_in file
  pub log : log_in left ≡ log_in file

-- The file has both sectors, with the same slot; an older one has none.
abbrev pub IsIntact : Layout → List ℕ → Type 0
IsIntact Dense file = Unit {0}
IsIntact Apart file = AreAlike file
IsIntact FirstAlone file = ⊥
IsIntact SecondAlone file = ⊥

-- No sector of the file is to be written again: it has both, with the same slot, or none; or no size is read of it.
abbrev pub IsLeftAlone : List ℕ → Type 0
IsLeftAlone file = IsIntact (layout_in file) file ⊎ ((fault : Fault) × (log_size (log_in file) ≡ Err fault))

-- The file lies in two sectors and has the log with these leaf digests, also where one of its slots is lost.
pub record SettlesApart (leaves : List Digest) (file : List ℕ) : Type 0 where
  pub lies : layout_in file ≡ Apart
  pub settled : IsSettled leaves (log_in file)

-- The first sector of a file with sectors is lost.
abbrev pub IsFirstLost : List ℕ → Type 0
IsFirstLost file = layout_in file ≡ SecondAlone

-- whether the first sector is lost of a file that lies so
abbrev pub is_first_lost : Layout → Bool
is_first_lost Dense = false
is_first_lost Apart = false
is_first_lost FirstAlone = false
is_first_lost SecondAlone = true

-- the size that the log of a file has with so many entries more; a file whose first sector is lost takes none
unfoldable pub grown_size : List ℕ → ℕ → Result ℕ Fault
grown_size file count =
    if nat_lt 0 count && is_first_lost (layout_in file) then Err HeadDamaged
    else appended_size (log_in file) count
