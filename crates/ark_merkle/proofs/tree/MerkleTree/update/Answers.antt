use Rattle.ark_base.proofs.Refusals.{passed_on}
use Rattle.ark_merkle.proofs.TreeChanges.{way-seen, with_leaf-ok, with_leaf-refused}
use Rattle.ark_merkle.proofs.tree.MerkleTree.update.Goals as goal

pub put_leaf-requires-clause-way : goal.put_leaf-requires-clause-way
put_leaf-requires-clause-way g c = way-seen c.parts.ensures.seen c.in_ok-digest.ensures.way

pub returns-in_err-digest-clause-tree : goal.returns-in_err-digest-clause-tree
returns-in_err-digest-clause-tree g c =
    passed_on _ _ c.from_residual.result _ c.from_residual.ensures.1 c.in_err-digest.ensures.root
    (with_leaf-refused c.parts.ensures.seen c.args.index c.args.new_leaf.now c.in_err-digest.field-0.0)

pub returns-clause-tree : goal.returns-clause-tree
returns-clause-tree g c = rw c.put_leaf.ensures (with_leaf-ok c.parts.ensures.seen c.args.index c.args.new_leaf.now _ _
    c.in_ok-digest.ensures.digest c.in_ok-digest.ensures.root)
