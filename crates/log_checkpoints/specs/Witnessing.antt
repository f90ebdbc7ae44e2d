-- What a witness does: it follows a log by its file, and hands out its signature of what that accepted.
use Rattle.std.specs.Prelude.{◌≡◌, ◌⊎◌, ℕ, List, Option, Some, None, Result, Ok, Err, is_some, IfSome}
use Rattle.log_checkpoints.specs.declared.witnessing.Unwitnessed.{Unwitnessed}
use Rattle.log_checkpoints.specs.declared.witnessing.Unwitnessed.TheVariants.{Note, Unmoved}
use Rattle.log_checkpoints.specs.declared.witnessing.Witness.{Witness}
use Rattle.log_tiles.specs.Followers.{IsMove, IsUnfollowed, IsUnmoved}
use Rattle.log_tiles.specs.declared.following.Head.{Head}
use Rattle.signed_notes.specs.Checkpoints.{CheckpointParts}
use Rattle.signed_notes.specs.Keys.{KeyParts}
use Rattle.signed_notes.specs.Opening.{IsClosed, IsOpened, Policy}
use Rattle.signed_notes.specs.Verifying.{cosign}
use Rattle.signed_notes.specs.Views.{cosigner_parts, policy_parts}
use Rattle.signed_notes.specs.declared.fault.Fault.{Fault}
use Rattle.signed_notes.specs.declared.fault.Fault.TheVariants.{Memory}

-- the head that a checkpoint states
abbrev pub head_of : CheckpointParts → Head
head_of c = record { size = c.size; root = c.root }

-- a witness: who has to sign the checkpoints that it signs, their origin, and its key
pub record WitnessParts : Type 0 where
  pub policy : Policy
  pub origin : List ℕ
  pub key : KeyParts

-- the parts of a witness
abbrev pub witness_parts : Witness → WitnessParts
witness_parts w = record { policy = policy_parts w.policy; origin = w.origin.now; key = cosigner_parts w.key }

-- what a call handed out, if it handed out something
abbrev pub handed_out : {A E : Type 0} → (A → List ℕ) → Result A E → Option (List ℕ)
handed_out view (Ok value) = Some (view value)
handed_out view (Err why) = None

-- A note is opened as a checkpoint of a head, and these bytes are the same note with the witness's signature at a time.
pub record IsCosigned (w : WitnessParts) (time : ℕ) (note : List ℕ) (head : Head) (bytes : List ℕ) : Type 0 where
  pub stated : CheckpointParts
  pub opened : IsOpened w.policy w.origin note stated
  pub head_is : head ≡ head_of stated
  pub signed : cosign w.policy.log time w.key note ≡ Ok bytes

-- A turn of a witness: its file made a step to a head, and bytes were handed out exactly where that accepted it. They
-- are signed of this head.
pub record IsTurn {F : Type 0} (holds : F → Head) (may_leave : F → Head → Type 0) (moment : F → ℕ)
    (left_since : F → ℕ → Head → Type 0) (IsSignedOf : Head → List ℕ → Type 0) (old new : F)
    (bytes : Option (List ℕ)) : Type 0 where
  pub head : Head
  pub move : IsMove holds may_leave moment left_since old new head (is_some bytes)
  pub signed : IfSome bytes (IsSignedOf head)

-- Why a note is not signed: it is closed to the policy, or signing it fails.
abbrev pub IsRefusedNote : WitnessParts → ℕ → List ℕ → Fault → Type 0
IsRefusedNote w time note fault = (fault ≡ Memory) ⊎ IsClosed w.policy w.origin note fault
    ⊎ ((stated : CheckpointParts) × IsOpened w.policy w.origin note stated
    × (cosign w.policy.log time w.key note ≡ Err fault))

-- Why a witness hands out nothing: its note is not signed, or its file did not move on to the note's head.
abbrev pub IsUnvouched : {R W : Type 0} → WitnessParts → ℕ → List ℕ → List ℕ → Head → Unwitnessed R W → Type 0
IsUnvouched w time note file old (Note fault) = IsRefusedNote w time note fault
IsUnvouched w time note file old (Unmoved why) = (stated : CheckpointParts) × IsOpened w.policy w.origin note stated
    × IsUnmoved file old (head_of stated) why

-- The file was not written.
abbrev pub IsUnwritten : {R W : Type 0} → Unwitnessed R W → Type 0
IsUnwritten (Note fault) = Unit {0}
IsUnwritten (Unmoved why) = IsUnfollowed why
