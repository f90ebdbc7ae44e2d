-- What a crash leaves of a folder while its checkpoint is put in place.
use Rattle.std.proofs.Common.{◌⊎◌, inl, inr, ◌∙◌, List, ℕ, refl, arith}
use Rattle.log_tiles.specs.Folders.{Files, IsOldOrNew, LeavesFile, LeavesReplaced, Passes}
use Rattle.log_tiles.specs.declared.folder.FileName.{FileName}
use Rattle.log_tiles.specs.declared.folder.FileName.TheVariants.{Checkpoint}

-- the second of two follows of the first
pub or_else : {P Q : Type 0} → (P → Q) → P ⊎ Q → Q
or_else first (inl p) = first p
or_else first (inr q) = q

-- All that was written is on the disk, and the checkpoint is put in place.
pub put-in_place : (note : List ℕ) (written : FileName → List ℕ → Type 0) (may_leave synced : Files → Type 0)
    → ((left : Files) → synced left → may_leave left)
    → ((name : FileName) (bytes : List ℕ) → written name bytes → LeavesFile name bytes synced) → (left : Files)
    → LeavesReplaced Checkpoint note synced left → IsOldOrNew note written may_leave left
put-in_place note written may_leave synced earlier durable left (before, is, replaced) = elim replaced.own [
  | inl old ↦ inl (before, earlier before is, old)
  | inr new ↦ inr (record {
    checkpoint = new;
    covered = λ name bytes other was. replaced.others name other ∙ durable name bytes was before is;
  })
]

-- A crash since a moment in which nothing was put in place leaves the old checkpoint.
pub stays-old : (note : List ℕ) (written : FileName → List ℕ → Type 0) (may_leave : Files → Type 0) (before now : ℕ)
    (past since : ℕ → Files → Type 0) → Passes before now past since may_leave
    → ((left : Files) → past before left → may_leave left) → (left : Files) → since before left
    → IsOldOrNew note written may_leave left
stays-old note written may_leave before now past since passes in_past left is =
    elim (passes.nothing_else before left (omega arith) is) [
      | inl then ↦ inl (left, in_past left then, refl)
      | inr now ↦ inl (left, now, refl)
    ]
