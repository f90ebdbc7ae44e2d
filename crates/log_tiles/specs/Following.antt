-- Logs that continue others, as whoever follows a log finds them.
use Rattle.std.specs.Prelude.{◌≡◌, ◌≢◌, ◌⊎◌, ◌<◌, ℕ, true, List, None, Ok, Err}
use Rattle.ark_paths.specs.Pair.{Digest}
use Rattle.ark_trees.specs.Rfc6962.{node_of}
use Rattle.merkle_log.specs.Bind.{BindsFront}
use Rattle.merkle_log.specs.Verdict.{consistency_verdict}
use Rattle.log_file.specs.Faults.{of_first}
use Rattle.log_file.specs.declared.fault.Fault.TheVariants.{Damaged, Memory}
use Rattle.log_store.specs.Refused.{index_outcome, older_outcome, IsNotOf, IsRefusedFor}
use Rattle.log_store.specs.declared.stop.Stop.TheVariants.{Disk, Fault}
use Rattle.log_tiles.specs.declared.following.Head.{Head}
use Rattle.log_tiles.specs.declared.unfollowed.Unfollowed.{Unfollowed}
use Rattle.log_tiles.specs.declared.unfollowed.Unfollowed.TheVariants.{Shrunk, Fork, Stopped}

-- A consistency proof of an old root of as many entries as the old head's, and of the new head, is accepted.
pub record IsShown (old_root : Digest) (old new : Head) : Type 0 where
  pub path : List Digest
  pub accepted : consistency_verdict node_of old.size old_root new.size new.root path ≡ Ok true
  -- The new log begins with the old one, or two pairs that differ and hash alike are named.
  pub bound : BindsFront node_of old.size old_root new.size new.root path

-- The new log is the old one, the old one has no entry, or a consistency proof of the two is accepted.
abbrev pub Continues : Head → Head → Type 0
Continues old new = (old ≡ new) ⊎ ((old.size ≡ 0) ⊎ IsShown old.root old new)

-- The logs have as many entries and two roots, or the new log is shown to have another root of the old size.
abbrev pub IsFork : Head → Head → Type 0
IsFork old new = ((old.size ≡ new.size) × (old.root ≢ new.root))
    ⊎ ((other : Digest) × ((other ≢ old.root) × IsShown other old new))

-- Why there is no proof of an index of the log of a head, whose tiles are those of a file: as of that file, or it is
-- not that of the head's log.
abbrev pub IsUnproved : {R : Type 0} → List ℕ → Head → ℕ → Unfollowed R → Type 0
IsUnproved file head index Shrunk = ⊥
IsUnproved file head index Fork = ⊥
IsUnproved {R} file head index (Stopped stop) = IsRefusedFor {A = ℕ} file (index_outcome file None index) (Err stop)
    ⊎ (stop ≡ Fault Damaged) × IsNotOf file head.size head.root

-- Why it is not found whether the log of a new head continues that of an old one: the new one has fewer entries, no log
-- has both, or as of the file that has the tiles, which may be that of another log.
abbrev pub IsUncontinued : {R : Type 0} → List ℕ → Head → Head → Unfollowed R → Type 0
IsUncontinued file old new Shrunk = new.size < old.size
IsUncontinued file old new Fork = IsFork old new
IsUncontinued file old new (Stopped stop) = IsRefusedFor {A = ℕ} file (of_first file None Ok) (Err stop)
    ⊎ IsRefusedFor {A = ℕ} file (older_outcome file None old.size) (Err stop)
    ⊎ (stop ≡ Fault Damaged) × IsNotOf file new.size new.root

-- A call stopped for want of memory, or since the disk refused a call.
abbrev pub IsHindered : {R : Type 0} → Unfollowed R → Type 0
IsHindered Shrunk = ⊥
IsHindered Fork = ⊥
IsHindered (Stopped (Fault fault)) = fault ≡ Memory
IsHindered (Stopped (Disk refusal)) = Unit {0}
