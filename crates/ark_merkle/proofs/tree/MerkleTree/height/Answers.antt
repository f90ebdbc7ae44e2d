use Rattle.std.proofs.Common.{arith}
use Rattle.ark_merkle.proofs.TreeReads.{log2-leaves, power-leaves}
use Rattle.ark_merkle.proofs.tree.MerkleTree.height.Goals as goal

pub returns-clause-levels : goal.returns-clause-levels
returns-clause-levels g c =
    rw (← c.parts.ensures.leaves) (omega (arith, c.len.ensures.count, log2-leaves _ _ _ c.parts.ensures.tree))

pub returns-clause-power : goal.returns-clause-power
returns-clause-power g c = rw (← c.parts.ensures.leaves) (power-leaves _ _ _ c.parts.ensures.tree)
