use Rattle.ark_merkle.proofs.EachIndex.{with_leaves-last}
use Rattle.ark_merkle.proofs.tree.MerkleTree.update_many.Goals as goal

pub returns-clause-each : goal.returns-clause-each
returns-clause-each g c = with_leaves-last _ _

pub returns-in_err-update_many_counting-clause-each : goal.returns-in_err-update_many_counting-clause-each
returns-in_err-update_many_counting-clause-each g c = with_leaves-last _ _
