-- How a run of calls of a disk goes on.
use Rattle.std.proofs.Common.{inl, inr, ⊎_elim, ℕ, ◌≤◌, List, arith}
use Rattle.log_store.specs.Disk.{Elapses, LeavesOnly}
use Rattle.log_store.specs.declared.disk.Disk.{Ghosts as Disks}

module _ {D R : Type 0} (disk : Disks D R) where
  -- no call
  pub begun : (old : D) (P : List ℕ → Type 0) → ((left : List ℕ) → disk.left_since old (disk.moment old) left → P left)
      → LeavesOnly disk.moment disk.left_since old old P
  begun old P here = record {
    later = omega arith;
    each = here;
    before = λ t left le since. inl since;
  }

  -- one call more
  pub goes_on : (old mid new : D) (P : List ℕ → Type 0) → LeavesOnly disk.moment disk.left_since old mid P
      → Elapses (disk.moment mid) (disk.moment new) (disk.left_since mid) (disk.left_since new) (disk.may_leave new)
      → ((left : List ℕ) → disk.may_leave new left → P left) → LeavesOnly disk.moment disk.left_since old new P
  goes_on old mid new P run time here = record {
    later = omega (arith, run.later, time.later);
    each = λ left since. ⊎_elim (run.each left) (here left) (time.nothing_else (disk.moment old) left run.later since);
    before = λ t left le since. ⊎_elim (run.before t left le) (λ now. inr (here left now))
        (time.nothing_else t left (omega (arith, le, run.later)) since);
  }

  -- a run of which less is said
  pub weaker : (old new : D) (P Q : List ℕ → Type 0) → LeavesOnly disk.moment disk.left_since old new Q
      → ((left : List ℕ) → Q left → P left) → LeavesOnly disk.moment disk.left_since old new P
  weaker old new P Q run same = record {
    later = run.later;
    each = λ left since. same left (run.each left since);
    before = λ t left le since. ⊎_elim (λ past. inl past) (λ now. inr (same left now)) (run.before t left le since);
  }

  -- one run behind another
  pub then_on : (old mid new : D) (P Q : List ℕ → Type 0) → LeavesOnly disk.moment disk.left_since old mid P
      → LeavesOnly disk.moment disk.left_since mid new Q → ((left : List ℕ) → Q left → P left)
      → LeavesOnly disk.moment disk.left_since old new P
  then_on old mid new P Q first second same = record {
    later = omega (arith, first.later, second.later);
    each = λ left since. ⊎_elim (first.each left) (same left) (second.before (disk.moment old) left first.later since);
    before = λ t left le since. ⊎_elim (first.before t left le) (λ now. inr (same left now))
        (second.before t left (omega (arith, le, first.later)) since);
  }

  -- what a crash leaves at the end of a run
  pub at_end : (old new : D) (P : List ℕ → Type 0) → LeavesOnly disk.moment disk.left_since old new P
      → ((t : ℕ) (left : List ℕ) → t ≤ disk.moment new → disk.may_leave new left → disk.left_since new t left)
      → (left : List ℕ) → disk.may_leave new left → P left
  at_end old new P run counts left now = run.each left (counts (disk.moment old) left run.later now)
