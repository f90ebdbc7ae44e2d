use Rattle.std.proofs.lemmas.Result.{IfOk-weaker}
use Rattle.acp_run.proofs.Turns.{multi_outside, multi_told, multi_refused}
use Rattle.acp_run.proofs.session.shows.multi_proof.Goals as goal

pub returns-then-not-are_below : goal.returns-then-not-are_below
returns-then-not-are_below g c = IfOk-weaker c.plain.result _ _ (λ reply. multi_outside _ _ c.args.indexes.now _ _
    c.size.ensures.size c.are_below.ensures.test reply.items c.if-not-are_below.true) c.plain.ensures

pub returns-in-Ok : goal.returns-in-Ok
returns-in-Ok g c = IfOk-weaker c.with_hex.result _ _ (λ reply. multi_told _ _ c.args.indexes.now _ _
    c.size.ensures.size c.are_below.ensures.test reply.items c.if-not-are_below.false _ _ c.in-Ok.ensures
    c.deref.ensures.value) c.with_hex.ensures

pub returns-in-Err : goal.returns-in-Err
returns-in-Err g c = IfOk-weaker c.refused.result _ _ (λ reply. multi_refused _ _ c.args.indexes.now _ _
    c.size.ensures.size c.are_below.ensures.test reply.items c.if-not-are_below.false _ c.in-Err.ensures)
    c.refused.ensures
