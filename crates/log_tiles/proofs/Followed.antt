-- What holds after each history of a follower.
use Rattle.std.proofs.Common.{zero, suc, subst, ◌≡◌, ◌⊎◌, ℕ, true, false, List, [], ◌∷◌, Contains, refl, sym, inl, inr, arith}
use Rattle.log_tiles.specs.Following.{Continues}
use Rattle.log_tiles.specs.Histories.{accepted_in, AreBefore, AreOfOneLog, Event, IsHistory, Stepped, Crashed}
use Rattle.log_tiles.specs.Ways.{IsBefore, LeadsBy, Stage}
use Rattle.log_tiles.specs.declared.following.Head.{Head}
use Rattle.log_tiles.proofs.Fronts.{fronted, way-grows}

by : (old new : Head) (way : List Stage) → LeadsBy old new way → IsBefore old new
by old new way leads = inr (way, leads, fronted old new way leads)

pub itself : (head : Head) → IsBefore head head
itself head = by head head [] refl

-- A log before the old one is before each that continues the old one.
on : (head old new : Head) → Continues old new → IsBefore head old → IsBefore head new
on head old new continues (inl none) = inl none
on head old new (inl same) (inr before) = subst (λ at. IsBefore head at) same (inr before)
on head old new (inr (inl none)) (inr before) =
    let le = way-grows head old before.0 before.1 in inl (omega arith)
on head old new (inr (inr shown)) (inr before) =
    by head new (record { from = old; path = shown.path } ∷ before.0) (shown.accepted, before.1)

all-on : (old new : Head) (heads : List Head) → Continues old new → AreBefore old heads → AreBefore new heads
all-on old new [] continues are = tt
all-on old new (head ∷ rest) continues are = (on head old new continues are.0, all-on old new rest continues are.1)

-- the same of a head that is this one
at : (a b : Head) (heads : List Head) → a ≡ b → AreBefore b heads → AreBefore a heads
at a b heads same are = subst (λ head. AreBefore head heads) (sym same) are

-- of heads of one log any two
among : (heads : List Head) (head a : Head) → AreBefore head heads → Contains heads a → IsBefore a head
among (old ∷ rest) head a are (zero, below, is) = subst (λ old. IsBefore old head) is are.0
among (old ∷ rest) head a are (suc k, below, is) = among rest head a are.1 (k, omega arith, is)
among [] head a are (k, below, is) = absurd (omega arith)

pub any-two : (heads : List Head) (a b : Head) → AreOfOneLog heads → Contains heads a → Contains heads b
    → IsBefore a b ⊎ IsBefore b a
any-two (head ∷ rest) a b are (zero, below, x) (zero, low, y) =
    inl (subst (λ b. IsBefore a b) y (subst (λ a. IsBefore a head) x (itself head)))
any-two (head ∷ rest) a b are (zero, below, x) (suc k, low, y) =
    inr (subst (λ a. IsBefore b a) x (among rest head b are.0 (k, omega arith, y)))
any-two (head ∷ rest) a b are (suc k, below, x) (zero, low, y) =
    inl (subst (λ b. IsBefore a b) y (among rest head a are.0 (k, omega arith, x)))
any-two (head ∷ rest) a b are (suc k, below, x) (suc j, low, y) =
    any-two rest a b are.1 (k, omega arith, x) (j, omega arith, y)
any-two [] a b are (k, below, x) y = absurd (omega arith)

module _ {F : Type 0} (holds : F → Head) (may_leave : F → Head → Type 0) (moment : F → ℕ)
    (left_since : F → ℕ → Head → Type 0) where
  -- Each accepted head is before what the file states, and before whatever a crash may leave.
  pub record Follows (now : F) (heads : List Head) : Type 0 where
    pub held : AreBefore (holds now) heads
    pub leaves : (left : Head) → may_leave now left → AreBefore left heads
    pub one : AreOfOneLog heads

  old_or_new : (P : Head → Type 0) (old left head : Head) (heads : List Head) → AreBefore old heads
      → (P left → AreBefore left heads) → P left ⊎ ((left ≡ head) × Continues old head) → AreBefore left heads
  old_or_new P old left head heads are same (inl p) = same p
  old_or_new P old left head heads are same (inr new) = at left head heads new.0 (all-on old head heads new.1 are)

  pub follows : (events : List (Event F)) (now : F) → IsHistory holds may_leave moment left_since events now
      → Follows now (accepted_in events)
  follows [] now is = record { held = tt; leaves = λ left may. tt; one = tt }
  follows (Stepped before head true ∷ earlier) now is =
      let was = follows earlier before is.0 in
      let heads = accepted_in earlier in
      let next = all-on (holds before) head heads (is.1.shown refl) was.held in
      record {
        held = at (holds now) head (head ∷ heads) (is.1.kept refl) (itself head, next);
        leaves = λ left may. at left head (head ∷ heads) (is.1.durable refl left may) (itself head, next);
        one = (next, was.one);
      }
  follows (Stepped before head false ∷ earlier) now is =
      let was = follows earlier before is.0 in
      let heads = accepted_in earlier in
      record {
        held = old_or_new (λ left. left ≡ holds before) (holds before) (holds now) head heads was.held
            (λ same. at (holds now) (holds before) heads same was.held) is.1.held;
        leaves = λ left may. old_or_new (may_leave before) (holds before) left head heads was.held (was.leaves left)
            (is.1.leaves left may);
        one = was.one;
      }
  follows (Crashed before during head accepted left ∷ earlier) now is =
      let was = follows earlier before is.0 in
      let heads = accepted_in earlier in
      let stays = old_or_new (may_leave before) (holds before) left head heads was.held (was.leaves left)
      (is.1.leaves_since left is.2) in
      record {
        held = at (holds now) left heads is.3.held stays;
        leaves = λ other may. at other left heads (is.3.only other may) stays;
        one = was.one;
      }
