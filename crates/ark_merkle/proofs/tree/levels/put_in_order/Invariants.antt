use Rattle.ark_merkle.proofs.LevelOrder.{IsTurned}
use Rattle.ark_merkle.proofs.tree.levels.put_in_order.Given as goal

-- the rows of the levels so far are in level order
abbrev pub invariant-loop-level : goal.invariant-loop-level
invariant-loop-level g l = IsTurned l.fn.digests l.level l.digests
