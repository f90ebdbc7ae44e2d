use Rattle.std.proofs.Common.{◌≡◌, ◌∙◌, length, true, sym}
use Rattle.std.proofs.lemmas.Result.{IfOk-weaker}
use Rattle.ark_paths.specs.Index.{is_tree_size}
use Rattle.ark_paths.specs.Pair.{pair_of}
use Rattle.acp_run.specs.Steps.{state_of}
use Rattle.acp_run.proofs.Trees.{tree_turn-built, takes_settled, made-leaves, made-hashes, hashes_settled}
use Rattle.acp_run.proofs.session.changes.new_tree.Goals as goal

pub returns-clause-turn : goal.returns-clause-turn
returns-clause-turn g c =
    let p = c.args.leaf_parameters.now in
    let q = c.args.pair_parameters.now in
    let fits : is_tree_size (length c.args.leaves.now) ≡ true =
    sym c.is_tree_size.ensures.test ∙ c.if-not-is_tree_size.false in
    let two = g.C.TwoToOneHash.TwoToOneCRHScheme in
    let pair = pair_of g.C.LeafInnerDigestConverter.DigestConverter.conversion two.evaluated two.compressed in
    let exact = tree_turn-built (pair q) (state_of c.args.tree.now) (g.C.LeafHash.CRHScheme.meaning p)
    c.args.leaves.now fits in
    let made = made-leaves g.C.LeafHash.CRHScheme.meaning pair p q _ c.new-made.result c.new-made.ensures in
    IfOk-weaker c.settle.result _ _ (λ reply settled. takes_settled c.args.tree.now _ _ _ c.new-made.result reply.items
    exact made settled) c.settle.ensures.settled

pub returns-clause-hashes : goal.returns-clause-hashes
returns-clause-hashes g c =
    let p = c.args.leaf_parameters.now in
    let q = c.args.pair_parameters.now in
    let meaning = g.C.LeafHash.CRHScheme.meaning in
    let two = g.C.TwoToOneHash.TwoToOneCRHScheme in
    let pair = pair_of g.C.LeafInnerDigestConverter.DigestConverter.conversion two.evaluated two.compressed in
    hashes_settled meaning pair p q (λ reply. reply.items) c.args.tree.now _ c.new-made.result
    c.settle.result c.requires
    (λ t is. made-hashes meaning pair p q _ t (rw is at c.new-made.ensures)) c.settle.ensures.settled
    c.settle.ensures.refused
