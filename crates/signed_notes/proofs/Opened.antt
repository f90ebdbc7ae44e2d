-- A note that is opened states one checkpoint, and no fault closes it.
use Rattle.std.proofs.Common.{◌≡◌, ℕ, List, Ok, Err, Result, inl, inr, ap, sym, subst, ◌∙◌, arith}
use Rattle.signed_notes.specs.Checkpoints.{CheckpointParts}
use Rattle.signed_notes.specs.Notes.{NoteParts}
use Rattle.signed_notes.specs.Opening.{checkpoint_by, IsClosed, IsOpened, IsUnwitnessed, IsWitnessed, Policy}
use Rattle.signed_notes.specs.Reading.{read_note}
use Rattle.signed_notes.specs.declared.fault.Fault.{Fault}
use Rattle.signed_notes.specs.declared.fault.Fault.TheVariants.{Memory}

pub one-value : {A E : Type 0} (a b : A) (result : Result A E) → result ≡ Ok a → result ≡ Ok b → a ≡ b
one-value a b result is too = let both = sym is ∙ too in cc

no-fault : {A E : Type 0} (a : A) (e : E) (result : Result A E) → result ≡ Ok a → result ≡ Err e → ⊥
no-fault a e result is too = let both = sym is ∙ too in absurd cc

pub one-checkpoint : (p : Policy) (origin bytes : List ℕ) (a b : CheckpointParts) → IsOpened p origin bytes a
    → IsOpened p origin bytes b → a ≡ b
one-checkpoint p origin bytes a b first second =
    let note = one-value first.note second.note (read_note bytes) first.read second.read in
    one-value a b (checkpoint_by origin first.note.text) first.checkpoint
    (ap (λ (n : NoteParts). checkpoint_by origin n.text) note ∙ second.checkpoint)

never-unwitnessed : (p : Policy) (note : NoteParts) (fault : Fault) → IsWitnessed p note
    → IsUnwitnessed p note fault → ⊥
never-unwitnessed p note fault is (inl (bad, inl log)) = log is.log_true
never-unwitnessed p note fault is (inl (bad, inr witnesses)) = witnesses is.witnesses_true
never-unwitnessed p note fault is (inr (inl (unknown, none))) = let both = sym is.by_log ∙ none in absurd cc
never-unwitnessed p note fault is (inr (inr (few, less))) = let enough = is.enough in omega arith

pub never-closed : (p : Policy) (origin bytes : List ℕ) (c : CheckpointParts) (fault : Fault)
    → IsOpened p origin bytes c → IsClosed p origin bytes fault → fault ≡ Memory
never-closed p origin bytes c fault is (inl memory) = memory
never-closed p origin bytes c fault is (inr (inl unread)) =
    absurd (no-fault is.note fault (read_note bytes) is.read unread)
never-closed p origin bytes c fault is (inr (inr (note, read, inl why))) =
    let same = one-value is.note note (read_note bytes) is.read read in
    absurd (never-unwitnessed p note fault (subst (IsWitnessed p) same is.signed) why)
never-closed p origin bytes c fault is (inr (inr (note, read, inr (signed, none)))) =
    let same = one-value is.note note (read_note bytes) is.read read in
    absurd (no-fault c fault (checkpoint_by origin note.text)
    (ap (λ (n : NoteParts). checkpoint_by origin n.text) (sym same) ∙ is.checkpoint) none)
