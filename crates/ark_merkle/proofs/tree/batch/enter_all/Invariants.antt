use Rattle.std.proofs.Common.{◌≡◌, ◌-◌, length, drop}
use Rattle.ark_merkle.specs.Batch.{last_changes}
use Rattle.ark_merkle.specs.Changed.{entered}
use Rattle.ark_merkle.proofs.tree.batch.enter_all.Given as goal

-- the last changes are entered
abbrev pub invariant-loop-n : goal.invariant-loop-n
invariant-loop-n g l = entered l.last ≡ last_changes (drop (length l.changes - l.n) l.changes)
