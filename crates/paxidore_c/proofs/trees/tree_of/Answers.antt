use Rattle.std.proofs.Common.{refl, sym, ◌∙◌}
use Rattle.paxidore_calls.specs.Hashing.{hashing_by}
use Rattle.paxidore_calls.proofs.TreeLemmas.{tree-made, tree-memory}
use Rattle.paxidore_c.proofs.trees.tree_of.Goals as goal

pub returns-in_err-new_with_leaf_digest : goal.returns-in_err-new_with_leaf_digest
returns-in_err-new_with_leaf_digest g c = tree-memory (hashing_by g.H.ArrayHash.leaf_hash g.H.ArrayHash.node_hash)
    (λ leaf. leaf.items) _
    refl _ _ _ c.from_residual-in_err-new_with_leaf_digest.result
    c.in_err-new_with_leaf_digest.field-0.0 c.from_residual-in_err-new_with_leaf_digest.ensures.1
    c.in_err-new_with_leaf_digest.ensures

pub returns : goal.returns
returns g c = tree-made (hashing_by g.H.ArrayHash.leaf_hash g.H.ArrayHash.node_hash) (λ leaf. leaf.items) _ refl
    c.args.leaves.now c.args.lengths.now
    (sym c.is_tree_size.ensures.test ∙ c.if-not-is_tree_size.false) c.in_ok-digests.digests.items
    c.in_ok-digests.ensures.made _ c.in_ok-new_with_leaf_digest.ensures
