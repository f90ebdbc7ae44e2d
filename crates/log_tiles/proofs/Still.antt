-- A step that does nothing.
use Rattle.std.proofs.Common.{ℕ, false, inl, refl}
use Rattle.log_tiles.specs.Followers.{IsMove}
use Rattle.log_tiles.specs.declared.following.Head.{Head}

pub still : {F : Type 0} (holds : F → Head) (may_leave : F → Head → Type 0) (moment : F → ℕ)
    (left_since : F → ℕ → Head → Type 0)
    → ((file : F) (left : Head) → left_since file (moment file) left → may_leave file left)
    → (file : F) (head : Head) → IsMove holds may_leave moment left_since file file head false
still holds may_leave moment left_since only_now file head = record {
  held = inl refl;
  leaves = λ left may. inl may;
  leaves_since = λ left since. inl (only_now file left since);
  shown = λ no. absurd cc;
  kept = λ no. absurd cc;
  durable = λ no. absurd cc;
}
