-- Whole histories of a follower: steps, each of which returns or is cut short by a crash.
use Rattle.std.specs.Prelude.{◌≡◌, ℕ, Bool, if◌then◌else◌, List, [], ◌∷◌}
use Rattle.log_tiles.specs.Followers.{LeavesAlone, IsMove}
use Rattle.log_tiles.specs.Ways.{IsBefore}
use Rattle.log_tiles.specs.declared.following.Head.{Head}

-- A step to a head that returned, with the file before it and whether it was accepted; or one that would have ended at
-- a file and was cut short by a crash, which left a head. A crash between two steps is one in a step that changes
-- nothing.
pub data Event (F : Type 0) : Type 0 where
  Stepped : F → Head → Bool → Event F
  Crashed : F → F → Head → Bool → Head → Event F

-- The file was opened after a crash that left this head, or for the first time.
pub record IsReopened {F : Type 0} (holds : F → Head) (may_leave : F → Head → Type 0) (left : Head) (now : F)
    : Type 0 where
  pub held : holds now ≡ left
  pub only : LeavesAlone left (may_leave now)

-- Events, the last one first, led to this file from one that stated a log of no entries.
abbrev pub IsHistory : {F : Type 0} → (F → Head) → (F → Head → Type 0) → (F → ℕ) → (F → ℕ → Head → Type 0)
    → List (Event F) → F → Type 0
IsHistory holds may_leave moment left_since [] now =
    IsReopened holds may_leave (holds now) now × ((holds now).size ≡ 0)
IsHistory holds may_leave moment left_since (Stepped before head accepted ∷ earlier) now =
    IsHistory holds may_leave moment left_since earlier before
    × IsMove holds may_leave moment left_since before now head accepted
IsHistory holds may_leave moment left_since (Crashed before during head accepted left ∷ earlier) now =
    IsHistory holds may_leave moment left_since earlier before
    × IsMove holds may_leave moment left_since before during head accepted
    × left_since during (moment before) left × IsReopened holds may_leave left now

-- the heads that were accepted, the last one first
abbrev pub accepted_in : {F : Type 0} → List (Event F) → List Head
accepted_in [] = []
accepted_in (Stepped before head accepted ∷ earlier) =
    if accepted then (head ∷ accepted_in earlier) else (accepted_in earlier)
accepted_in (Crashed before during head accepted left ∷ earlier) = accepted_in earlier

-- The log of each of these heads is before that of one.
abbrev pub AreBefore : Head → List Head → Type 0
AreBefore head [] = Unit {0}
AreBefore head (old ∷ earlier) = IsBefore old head × AreBefore head earlier

-- Of heads, the last one first, the log of each earlier one is before that of each later one.
abbrev pub AreOfOneLog : List Head → Type 0
AreOfOneLog [] = Unit {0}
AreOfOneLog (head ∷ earlier) = AreBefore head earlier × AreOfOneLog earlier
