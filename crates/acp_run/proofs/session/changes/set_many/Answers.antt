use Rattle.std.proofs.Common.{◌∙◌, sym, refl, inl}
use Rattle.std.proofs.lemmas.Result.{IfOk-weaker}
use Rattle.ark_paths.specs.Pair.{pair_of}
use Rattle.acp_run.proofs.LeafChanges.{set_many_turn-outside, takes_changed, takes_refused}
use Rattle.acp_run.proofs.session.changes.set_many.Goals as goal

pub returns-then-not-are_below-clause-turn : goal.returns-then-not-are_below-clause-turn
returns-then-not-are_below-clause-turn g c =
    let tree = c.args.tree.now in
    let two = g.C.TwoToOneHash.TwoToOneCRHScheme in
    let pair = pair_of g.C.LeafInnerDigestConverter.DigestConverter.conversion two.evaluated two.compressed in
    let exact = set_many_turn-outside (g.C.LeafHash.CRHScheme.meaning tree.leaf_parameters) (pair tree.pair_parameters)
    tree.leaves c.args.changes.now _ c.size.ensures.size (sym c.are_below.ensures.test ∙ c.if-not-are_below.true) in
    IfOk-weaker c.plain.result _ _ (λ reply told. rw exact (inl (told, refl))) c.plain.ensures

pub returns-in-Ok-clause-turn : goal.returns-in-Ok-clause-turn
returns-in-Ok-clause-turn g c =
    let two = g.C.TwoToOneHash.TwoToOneCRHScheme in
    let pair = pair_of g.C.LeafInnerDigestConverter.DigestConverter.conversion two.evaluated two.compressed in
    takes_changed g.C.LeafHash.CRHScheme.meaning pair c.args.tree.now c.update_many.new.self c.args.changes.now
    _ c.size.ensures.size (sym c.are_below.ensures.test ∙ c.if-not-are_below.false) _
    c.in-Ok.ensures.tree c.in_ok-done.ensures

pub returns-in-Err-clause-turn : goal.returns-in-Err-clause-turn
returns-in-Err-clause-turn g c =
    let two = g.C.TwoToOneHash.TwoToOneCRHScheme in
    let pair = pair_of g.C.LeafInnerDigestConverter.DigestConverter.conversion two.evaluated two.compressed in
    IfOk-weaker c.refused.result _ _ (λ reply told. takes_refused g.C.LeafHash.CRHScheme.meaning pair c.args.tree.now
    c.update_many.new.self c.args.changes.now _ c.size.ensures.size
    (sym c.are_below.ensures.test ∙ c.if-not-are_below.false) c.in-Err.error reply.items c.in-Err.ensures.tree
    c.in-Err.ensures.refused told) c.refused.ensures
