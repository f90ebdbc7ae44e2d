use Rattle.std.proofs.Common.{◌≡◌, ◌≤◌, ◌+◌, ◌-◌, ℕ, List, length, replicate}
use Rattle.log_store.specs.Disk.{LeavesOnly}
use Rattle.log_store.specs.Store.{IsAllFresh, IsHeadless}
use Rattle.log_store.proofs.Recovering.{IsCopied}
use Rattle.log_store.proofs.recovery.copy_parts.Given as goal

abbrev pub invariant-parts : goal.invariant-parts
invariant-parts g l =
    let seen = g.D.Disk.seen in
    let may_leave = g.D.Disk.may_leave in
    record {
      within : l.done ≤ l.count;
      obeyed : g.D.Disk.Obeys l.new → g.D.Disk.Obeys l.fn.new;
      copied : g.D.Disk.Obeys l.new → g.D.Disk.Obeys l.disk → seen l.fn.new ≡ replicate 96 0
          → 96 + l.count ≤ length (seen l.disk) → IsCopied (seen l.disk) (seen l.new) l.done;
      fresh : g.D.Disk.Obeys l.new → g.D.Disk.Obeys l.disk → seen l.fn.new ≡ replicate 96 0
          → IsAllFresh (g.D.Disk.fresh l.fn.new) (may_leave l.fn.new) (seen l.fn.new)
          → 96 + l.count ≤ length (seen l.disk)
          → IsAllFresh (g.D.Disk.fresh l.new) (may_leave l.new) (seen l.new);
      run : g.D.Disk.Obeys l.new → seen l.fn.new ≡ replicate 96 0
          → ((left : List ℕ) → may_leave l.fn.new left → IsHeadless left)
          → LeavesOnly g.D.Disk.moment g.D.Disk.left_since l.fn.new l.new IsHeadless;
      blank : g.D.Disk.Obeys l.new → seen l.fn.new ≡ replicate 96 0
          → ((left : List ℕ) → may_leave l.fn.new left → IsHeadless left)
          → (left : List ℕ) → may_leave l.new left → IsHeadless left;
      long : g.D.Disk.Obeys l.new → seen l.fn.new ≡ replicate 96 0 → 96 + l.done ≤ length (seen l.new);
    }

abbrev pub decreases-parts : goal.decreases-parts
decreases-parts g l = l.count - l.done
