use Rattle.std.proofs.Common.{◌≡◌, ◌∙◌, length, true, sym, ap}
use Rattle.std.proofs.lemmas.Result.{IfOk-weaker}
use Rattle.ark_paths.specs.Index.{is_tree_size}
use Rattle.ark_paths.specs.Pair.{pair_of}
use Rattle.acp_run.specs.Steps.{state_of}
use Rattle.acp_run.proofs.Trees.{digests_turn-built, takes_settled, made-leaves, made-hashes, hashes_settled}
use Rattle.acp_run.proofs.session.changes.new_tree_of_digests.Goals as goal

pub returns-clause-turn : goal.returns-clause-turn
returns-clause-turn g c =
    let p = c.args.leaf_parameters.now in
    let q = c.args.pair_parameters.now in
    let fits : is_tree_size (length c.args.digests.items) ≡ true =
    ap is_tree_size (sym (c.len.ensures ∙ c.args.digests.ok.0)) ∙ sym c.is_tree_size.ensures.test
    ∙ c.if-not-is_tree_size.false in
    let two = g.C.TwoToOneHash.TwoToOneCRHScheme in
    let pair = pair_of g.C.LeafInnerDigestConverter.DigestConverter.conversion two.evaluated two.compressed in
    let exact = digests_turn-built (pair q) (state_of c.args.tree.now) g.C.LeafDigest.Numbered.numbers
    c.args.digests.items fits in
    let made = made-leaves g.C.LeafHash.CRHScheme.meaning pair p q _ c.new_with_leaf_digest-made.result
    c.new_with_leaf_digest-made.ensures in
    IfOk-weaker c.settle.result _ _ (λ reply settled. takes_settled c.args.tree.now _ _ _
    c.new_with_leaf_digest-made.result reply.items exact made settled) c.settle.ensures.settled

pub returns-clause-hashes : goal.returns-clause-hashes
returns-clause-hashes g c =
    let p = c.args.leaf_parameters.now in
    let q = c.args.pair_parameters.now in
    let meaning = g.C.LeafHash.CRHScheme.meaning in
    let two = g.C.TwoToOneHash.TwoToOneCRHScheme in
    let pair = pair_of g.C.LeafInnerDigestConverter.DigestConverter.conversion two.evaluated two.compressed in
    hashes_settled meaning pair p q (λ reply. reply.items) c.args.tree.now _ c.new_with_leaf_digest-made.result
    c.settle.result c.requires
    (λ t is. made-hashes meaning pair p q _ t (rw is at c.new_with_leaf_digest-made.ensures)) c.settle.ensures.settled
    c.settle.ensures.refused
