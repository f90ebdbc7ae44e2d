use Rattle.std.proofs.Common.{◌≡◌, ◌⊎◌, ℕ, ◌<◌, get_or}
use Rattle.log_store.proofs.new_log.are_of_head.Given as goal

abbrev pub invariant-loop-n : goal.invariant-loop-n
invariant-loop-n l = (k : ℕ) → k < l.n → (get_or l.there k 0 ≡ get_or l.head k 0) ⊎ (get_or l.there k 0 ≡ 0)
