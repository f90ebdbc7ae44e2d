-- Whole sessions.
use Rattle.std.specs.Prelude.{◌≡◌, ◌<◌, ◌⊎◌, ◌^◌, ◌-◌, ℕ, List, [], ◌∷◌, length, take, Option, None, IfSome, ⊤}
use Rattle.std.specs.List.{flat_map}
use Rattle.std.specs.Io.KnownBytes.{Appends, Consumes}
use Rattle.acp_run.specs.Lines.{whole_lines_of, with_line_feed}

-- some lines, one after another, from a state on, and the reply to each
abbrev pub Session : {T : Type 0} → (T → List ℕ → T → List ℕ → Type 0) → T → List (List ℕ) → List (List ℕ) → Type 0
Session step before [] [] = Unit {0}
Session step before (line ∷ lines) (reply ∷ replies) =
    (after : _) × step before line after reply × Session step after lines replies
Session step before [] (reply ∷ replies) = ⊥
Session step before (line ∷ lines) [] = ⊥

-- What a writer holds grows by a front of some bytes, where it tells what it holds.
abbrev pub AppendsFront : Option (List ℕ) → Option (List ℕ) → List ℕ → Type 0
AppendsFront before after bytes = (n : ℕ) × Appends before after (take n bytes)

-- What a reader has left loses a front, where it tells what it has left.
abbrev pub LosesFront : Option (List ℕ) → Option (List ℕ) → Type 0
LosesFront before after = (front : List ℕ) × Consumes before after front

-- What the writer holds when all that a reader had is answered, from a state on: what it held, then each reply with
-- a line feed. A reader or a writer that does not tell its bytes is not spoken of.
abbrev pub ServesFrom : {T : Type 0} → (T → List ℕ → T → List ℕ → Type 0) → T
    → Option (List ℕ) → Option (List ℕ) → Option (List ℕ) → Type 0
ServesFrom step start input before after =
    IfSome input (λ bytes. (replies : List (List ℕ)) × Session step start (whole_lines_of bytes) replies
    × Appends before after (flat_map with_line_feed replies))

-- the same from no tree on
abbrev pub Serves : {T : Type 0} → (Option T → List ℕ → Option T → List ℕ → Type 0)
    → Option (List ℕ) → Option (List ℕ) → Option (List ℕ) → Type 0
Serves step = ServesFrom step None

-- What the writer holds when a session is cut short: what it held, then a front of the replies to some first lines of
-- what the reader had, each with a line feed.
abbrev pub StopsFrom : {T : Type 0} → (T → List ℕ → T → List ℕ → Type 0) → T
    → Option (List ℕ) → Option (List ℕ) → Option (List ℕ) → Type 0
StopsFrom step start input before after =
    IfSome input (λ bytes. (n : ℕ) × (replies : List (List ℕ))
    × Session step start (take n (whole_lines_of bytes)) replies
    × AppendsFront before after (flat_map with_line_feed replies))

-- the same from no tree on
abbrev pub Stops : {T : Type 0} → (Option T → List ℕ → Option T → List ℕ → Type 0)
    → Option (List ℕ) → Option (List ℕ) → Option (List ℕ) → Type 0
Stops step = StopsFrom step None

-- What the writer holds when a session is cut short and neither the reader nor the writer failed: what it held, then
-- the whole replies to some first lines. Either there was a further line, for whose reply memory lacked, or
-- 2 ^ 64 - 1 lines were answered.
abbrev pub HaltsFrom : {T : Type 0} → (T → List ℕ → T → List ℕ → Type 0) → T → Type 0
    → Option (List ℕ) → Option (List ℕ) → Option (List ℕ) → Type 0
HaltsFrom step start lacks input before after =
    IfSome input (λ bytes. (n : ℕ) × (replies : List (List ℕ))
    × Session step start (take n (whole_lines_of bytes)) replies
    × Appends before after (flat_map with_line_feed replies)
    × ((n < length (whole_lines_of bytes)) × lacks ⊎ length replies ≡ 2 ^ 64 - 1))

-- the same from no tree on; that memory lacked is not seen from outside
abbrev pub Halts : {T : Type 0} → (Option T → List ℕ → Option T → List ℕ → Type 0)
    → Option (List ℕ) → Option (List ℕ) → Option (List ℕ) → Type 0
Halts step = HaltsFrom step None ⊤
