-- What a step of a follower does to the file that states its head.
use Rattle.std.specs.Prelude.{◌≡◌, ◌⊎◌, ◌≤◌, ℕ, Bool, true, List}
use Rattle.log_tiles.specs.Following.{Continues, IsHindered, IsUncontinued}
use Rattle.log_tiles.specs.declared.follower.Unmoved.{Unmoved}
use Rattle.log_tiles.specs.declared.follower.Unmoved.TheVariants.{File, Unfollowed}
use Rattle.log_tiles.specs.declared.following.Head.{Head}

-- A crash leaves this head and no other.
abbrev pub LeavesAlone : Head → (Head → Type 0) → Type 0
LeavesAlone head may_leave = (left : Head) → may_leave left → left ≡ head

-- Time goes on: a crash since a moment might have left what it might have left before, or what it may leave in between.
pub record TakesTime (before now : ℕ) (past since : ℕ → Head → Type 0) (between : Head → Type 0) : Type 0 where
  pub later : before ≤ now
  pub nothing_else : (t : ℕ) (left : Head) → t ≤ before → since t left → past t left ⊎ between left

-- The new head was written over one whose log it continues, or nothing was.
pub record IsMove {F : Type 0} (holds : F → Head) (may_leave : F → Head → Type 0) (moment : F → ℕ)
    (left_since : F → ℕ → Head → Type 0) (old new : F) (head : Head) (accepted : Bool) : Type 0 where
  pub held : (holds new ≡ holds old) ⊎ ((holds new ≡ head) × Continues (holds old) head)
  pub leaves : (left : Head) → may_leave new left
      → may_leave old left ⊎ ((left ≡ head) × Continues (holds old) head)
  -- at any moment of the step
  pub leaves_since : (left : Head) → left_since new (moment old) left
      → may_leave old left ⊎ ((left ≡ head) × Continues (holds old) head)
  -- What is accepted continues the old log and is held, and no crash takes it back.
  pub shown : accepted ≡ true → Continues (holds old) head
  pub kept : accepted ≡ true → holds new ≡ head
  pub durable : accepted ≡ true → LeavesAlone head (may_leave new)

-- Why a follower did not move on from a head: the new log was not found to continue its log, by the tiles of a file; or
-- as its own file refused.
abbrev pub IsUnmoved : {R W : Type 0} → List ℕ → Head → Head → Unmoved R W → Type 0
IsUnmoved file old new (Unfollowed held why) = (held ≡ old) × IsUncontinued file old new why
IsUnmoved file old new (File refusal) = Unit {0}

-- It was not found that the new log continues the old one.
abbrev pub IsUnfollowed : {R W : Type 0} → Unmoved R W → Type 0
IsUnfollowed (Unfollowed held why) = Unit {0}
IsUnfollowed (File refusal) = ⊥

-- A follower did not move on for want of memory, or since the disk or its file refused a call.
abbrev pub IsHinderedStep : {R W : Type 0} → Unmoved R W → Type 0
IsHinderedStep (Unfollowed held why) = IsHindered why
IsHinderedStep (File refusal) = Unit {0}
