-- A folder of files with names, and what a crash may leave of it.
use Rattle.std.specs.Prelude.{◌≡◌, ◌≢◌, ◌⊎◌, ◌≤◌, ℕ, List, Some}
use Rattle.std.specs.declared.option.Option.{Option}
use Rattle.log_tiles.specs.declared.folder.FileName.{FileName}
use Rattle.log_tiles.specs.declared.folder.FileName.TheVariants.{Checkpoint}

-- the file of each name, if it has one
abbrev pub Files : Type 0
Files = FileName → Option (List ℕ)

-- A file was put in the place of that of a name: the name has the old or the new one, and each other name its own.
pub record IsReplaced (name : FileName) (bytes : List ℕ) (before left : Files) : Type 0 where
  pub own : (left name ≡ before name) ⊎ (left name ≡ Some bytes)
  pub others : (other : FileName) → other ≢ name → left other ≡ before other

-- A crash leaves what it might have left before, but of this name perhaps the new file.
abbrev pub LeavesReplaced : FileName → List ℕ → (Files → Type 0) → Files → Type 0
LeavesReplaced name bytes may_leave left = (before : Files) × may_leave before × IsReplaced name bytes before left

-- A crash leaves this file under its name.
abbrev pub LeavesFile : FileName → List ℕ → (Files → Type 0) → Type 0
LeavesFile name bytes may_leave = (left : Files) → may_leave left → left name ≡ Some bytes

-- Time goes on: a crash since a moment might have left what it might have left before, or what it may leave in between.
pub record Passes (before now : ℕ) (past since : ℕ → Files → Type 0) (between : Files → Type 0) : Type 0 where
  pub later : before ≤ now
  pub nothing_else : (t : ℕ) (left : Files) → t ≤ before → since t left → past t left ⊎ between left

-- A crash leaves the checkpoint that it might have left before.
abbrev pub KeepsCheckpoint : (Files → Type 0) → Files → Type 0
KeepsCheckpoint may_leave left = (before : Files) × may_leave before × (left Checkpoint ≡ before Checkpoint)

-- The checkpoint is the new one, and each other file that was written is there.
pub record IsNew (note : List ℕ) (written : FileName → List ℕ → Type 0) (left : Files) : Type 0 where
  pub checkpoint : left Checkpoint ≡ Some note
  pub covered : (name : FileName) (bytes : List ℕ) → name ≢ Checkpoint → written name bytes → left name ≡ Some bytes

-- The checkpoint is the one that a crash might have left before; or it is the new one, and each other file that was
-- written is there.
abbrev pub IsOldOrNew : List ℕ → (FileName → List ℕ → Type 0) → (Files → Type 0) → Files → Type 0
IsOldOrNew note written may_leave left = KeepsCheckpoint may_leave left ⊎ IsNew note written left
