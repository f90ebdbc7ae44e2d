use Rattle.std.proofs.Common.{sym, ◌∙◌}
use Rattle.std.proofs.lemmas.Result.{IfOk-weaker}
use Rattle.paxidore_calls.proofs.Blocks.{root-over}
use Rattle.paxidore_calls.proofs.roots.root_over_leaves.Goals as goal

pub returns-then-lengths-gt-BLOCK-clause-root : goal.returns-then-lengths-gt-BLOCK-clause-root
returns-then-lengths-gt-BLOCK-clause-root g c =
    IfOk-weaker c.root_of_many.result _ _ (λ digest rooted. root-over g.H.ArrayHash.leaf_hash g.H.ArrayHash.node_hash
    c.args.leaves.now c.args.lengths.now digest (sym c.is_tree_size.ensures.test ∙ c.if-not-is_tree_size.false)
    (sym c.are_parts.ensures ∙ c.if-not-are_parts.false) rooted) c.root_of_many.ensures.root

pub returns-else-lengths-gt-BLOCK-clause-root : goal.returns-else-lengths-gt-BLOCK-clause-root
returns-else-lengths-gt-BLOCK-clause-root g c =
    IfOk-weaker c.root_of_few.result _ _ (λ digest rooted. root-over g.H.ArrayHash.leaf_hash g.H.ArrayHash.node_hash
    c.args.leaves.now c.args.lengths.now digest (sym c.is_tree_size.ensures.test ∙ c.if-not-is_tree_size.false)
    (sym c.are_parts.ensures ∙ c.if-not-are_parts.false) rooted) c.root_of_few.ensures.root
