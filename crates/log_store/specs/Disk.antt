-- What the calls of a disk do to its file, and what a crash may leave of it.
use Rattle.std.specs.Prelude.{◌≡◌, ◌⊎◌, ◌+◌, ◌≤◌, ◌<◌, ℕ, max, List, length, take, drop, get_or}

-- Two pieces, each by its place and its length, have no byte in common.
abbrev pub AreApart : ℕ → ℕ → ℕ → ℕ → Type 0
AreApart at n to m = (at + n ≤ to) ⊎ (to + m ≤ at)

-- At each place of the new bytes stands the new one, or the old one: 0 behind the end of the old ones.
abbrev pub IsMixed : List ℕ → List ℕ → List ℕ → Type 0
IsMixed old new mixed = (i : ℕ) → i < length new
    → (get_or mixed i 0 ≡ get_or old i 0) ⊎ (get_or mixed i 0 ≡ get_or new i 0)

-- A write of n bytes was cut short: any bytes stand in its range, and what was there elsewhere.
pub record Cut (at n : ℕ) (old new : List ℕ) : Type 0 where
  pub before : take at new ≡ take at old
  pub after : drop (at + n) new ≡ drop (at + n) old
  pub no_shorter : length old ≤ length new
  pub no_longer : length new ≤ max (length old) (at + n)

-- A write of bytes was cut short: each byte of its range is the old or the new one.
pub record Torn (at : ℕ) (bytes old new : List ℕ) : Type 0 where
  pub cut : Cut at (length bytes) old new
  pub mixed : IsMixed (drop at old) bytes (drop at new)

-- Two writes were cut short, of bytes and then of m others.
abbrev pub TornTwice : ℕ → List ℕ → ℕ → ℕ → List ℕ → List ℕ → Type 0
TornTwice at bytes to m old new = (mid : List ℕ) × Torn at bytes old mid × Cut to m mid new

-- A crash leaves these bytes from a place on.
abbrev pub Leaves : ℕ → List ℕ → (List ℕ → Type 0) → Type 0
Leaves at bytes may_leave = (left : List ℕ) → may_leave left → take (length bytes) (drop at left) ≡ bytes

-- The file is what a crash might have left before, after a step.
abbrev pub After : (List ℕ → List ℕ → Type 0) → (List ℕ → Type 0) → List ℕ → Type 0
After Step old left = (before : List ℕ) × old before × Step before left

-- What a crash may leave now is what it might have left before, after a step.
abbrev pub LeavesMore : (List ℕ → List ℕ → Type 0) → (List ℕ → Type 0) → (List ℕ → Type 0) → Type 0
LeavesMore Step old new = (left : List ℕ) → new left → After Step old left

-- Time goes on: a crash since a moment might have left what it might have left before, or what it may leave now.
pub record Elapses (before now : ℕ) (past since : ℕ → List ℕ → Type 0) (may_leave : List ℕ → Type 0) : Type 0 where
  pub later : before ≤ now
  pub nothing_else : (t : ℕ) (left : List ℕ) → t ≤ before → since t left → past t left ⊎ may_leave left

-- A crash at any moment of a run leaves a file that has P.
pub record LeavesOnly {D : Type 0} (moment : D → ℕ) (left_since : D → ℕ → List ℕ → Type 0) (old new : D)
    (P : List ℕ → Type 0) : Type 0 where
  pub later : moment old ≤ moment new
  pub each : (left : List ℕ) → left_since new (moment old) left → P left
  -- of a run that began earlier
  pub before : (t : ℕ) (left : List ℕ) → t ≤ moment old → left_since new t left → left_since old t left ⊎ P left
