use Rattle.std.proofs.Common.{◌-◌, ◌≤◌, length, drop}
use Rattle.ark_merkle.specs.Changed.{Rise}
use Rattle.ark_merkle.proofs.tree.batch.are_rising.Given as goal

-- the last changes rise
abbrev pub invariant-loop-n : goal.invariant-loop-n
invariant-loop-n g l = (1 ≤ l.n) × Rise 0 (drop (length l.changes - l.n) l.changes)
