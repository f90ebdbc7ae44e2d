use Rattle.std.proofs.Common.{◌≤◌, ◌+◌, ◌∷◌, ◌∙◌, length, drop, sym, ap, subst, arith}
use Rattle.std.proofs.lemmas.List.{drop_more}
use Rattle.paxidore_calls.proofs.Made.{behind_stays, behind-step}
use Rattle.paxidore_c.proofs.file_calls.making.leave_behind.Goals as goal

pub loop-step-preserved : goal.loop-step-preserved
loop-step-preserved c = λ rest.
    let x = c.step-item.result in
    let more = drop (c.loop-step.step-index + 1) c.args.steps.now in
    let inside : x.at + length x.bytes.items ≤ c.args.end =
    omega (arith, c.if-step-end.false, c.if-len-end.false, c.len.ensures, x.bytes.ok.0) in
    c.loop-step.invariant (subst (behind_stays c.args.end)
    (sym (drop_more c.args.steps.now c.loop-step.step-index x c.loop-step-test.true
    ∙ ap (λ y. y ∷ more) (sym c.step-item.is)))
    (behind-step c.args.end x more inside rest))
