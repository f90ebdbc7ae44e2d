use Rattle.std.proofs.Common.{◌≤◌, ◌∙◌, map, Ok, ap, arith}
use Rattle.std.proofs.lemmas.Fn.{slice_gives}
use Rattle.ark_base.proofs.Refusals.{passed_on}
use Rattle.ark_paths.proofs.MultiLists.{answers_over_list}
use Rattle.acp_run.proofs.Findings.{multi-refused, multi-said}
use Rattle.acp_run.proofs.Counts.{may_count, may_hash, verdict_with-pairs}
use Rattle.acp_run.proofs.session.checks.multi_verdict.Goals as goal

pub returns-in_err-holds-clause-answer : goal.returns-in_err-holds-clause-answer
returns-in_err-holds-clause-answer g c =
    let meaning = g.C.LeafHash.CRHScheme.meaning c.args.leaf_parameters.now in
    let over = answers_over_list _ (λ item. item.now) meaning _ _ c.iter.result _ (slice_gives c.iter.result)
    c.in_err-holds.ensures.answer in
    passed_on _ _ c.from_residual-in_err-holds.result c.in_err-holds.field-0.0 c.from_residual-in_err-holds.ensures.1
    (rw c.iter.ensures.rest at over)
    (multi-refused _ c.in_ok-proof.field-0 c.in-Some.proof _ c.in_ok-proof.ensures c.in-Some.is _ _ c.requires _
    _ c.root.ensures (map meaning c.args.leaves.now) _ c.in_err-holds.field-0.0)

pub returns-clause-answer : goal.returns-clause-answer
returns-clause-answer g c =
    let meaning = g.C.LeafHash.CRHScheme.meaning c.args.leaf_parameters.now in
    let over = answers_over_list _ (λ item. item.now) meaning _ _ c.iter.result _ (slice_gives c.iter.result)
    c.in_ok-holds.ensures.answer in
    let told = ap (λ f. Ok f) (verdict_with-pairs c.args.with_pairs c.in_ok-holds.pairs c.in_ok-holds.holds) in
    rw c.verdict_with.ensures (multi-said _ c.in_ok-proof.field-0 c.in-Some.proof _ c.in_ok-proof.ensures c.in-Some.is
    _ _ c.requires _ _ c.root.ensures (map meaning c.args.leaves.now) _ _ (rw c.iter.ensures.rest at over) ∙ told)

pub returns-clause-count : goal.returns-clause-count
returns-clause-count g c = λ _ with_pairs.
    let meaning = g.C.LeafHash.CRHScheme.meaning c.args.leaf_parameters.now in
    let over = answers_over_list _ (λ item. item.now) meaning _ _ c.iter.result _ (slice_gives c.iter.result)
    c.in_ok-holds.ensures.answer in
    let fits : c.in_ok-holds.pairs ≤ 18446744073709551615 = omega arith in
    let hashed = may_hash _ (λ item. item.now) meaning c.iter.result _ (slice_gives c.iter.result) _ _ _
    c.in_ok-holds.holds c.in_ok-holds.pairs over fits c.in_ok-holds.ensures.most c.in_ok-holds.ensures.exact in
    rw (c.verdict_with.ensures, with_pairs) (may_count _ c.in_ok-proof.field-0 c.in-Some.proof _
    c.in_ok-proof.ensures c.in-Some.is _ _ c.requires _ _ c.root.ensures _ _ (rw c.iter.ensures.rest at hashed))
