use Rattle.std.proofs.Common.{◌≡◌, ◌+◌, ◌-◌, length}
use Rattle.ark_merkle.proofs.MultiCommon.{common}
use Rattle.ark_merkle.proofs.tree.multi_proof.digests_in_common.Given as goal

-- the digests in the rows above are the same
abbrev pub invariant-loop-above : goal.invariant-loop-above
invariant-loop-above g l =
    let n = length l.rows in
    common l.rows (n - 1) l.before l.index ≡ l.above - 1 + common l.rows (n - l.above) l.before l.index
