use Rattle.std.proofs.Common.{Some, refl, inl}
use Rattle.std.proofs.lemmas.Result.{IfOk-weaker}
use Rattle.acp_run.specs.Steps.{state_of}
use Rattle.acp_run.proofs.Counts.{tells_count}
use Rattle.acp_run.proofs.Findings.{tells_found}
use Rattle.acp_run.proofs.Turns.{steps, takes_told}
use Rattle.acp_run.proofs.session.answer.answer.Goals as goal

pub returns-in-Some-tree-2-clause-step : goal.returns-in-Some-tree-2-clause-step
returns-in-Some-tree-2-clause-step g c =
    let has = rw c.in-Some-tree-2.is at c.requires in
    IfOk-weaker c.set_many.result _ _ (λ reply told.
    steps _ _ _ _ _ c.in-Some.is c.in-SetMany.is _ _ g.met.C.Shell.language_is c.args.line.now c.in_ok-request.ensures
    c.args.leaf_parameters.now c.args.pair_parameters.now (state_of c.args.tree.now)
    (Some c.set_many.new.tree.leaves) reply.items
    (rw (c.in-Some-tree-2.is, ← has.0, ← has.1, ← c.deref-in-Some-tree-2.ensures.value) told)) c.set_many.ensures.turn

pub returns-in-SetMany-clause-step : goal.returns-in-SetMany-clause-step
returns-in-SetMany-clause-step g c =
    IfOk-weaker c.plain-in-None-tree.result _ _ (λ reply told.
    steps _ _ _ _ _ c.in-Some.is c.in-SetMany.is _ _ g.met.C.Shell.language_is c.args.line.now c.in_ok-request.ensures
    c.args.leaf_parameters.now c.args.pair_parameters.now (state_of c.args.tree.now)
    (state_of c.args.tree.now) reply.items
    (rw (c.in-None-tree.is) (inl (told, refl)))) c.plain-in-None-tree.ensures

pub returns-in-Some-tree-5-clause-step : goal.returns-in-Some-tree-5-clause-step
returns-in-Some-tree-5-clause-step g c =
    let has = rw c.in-Some-tree-5.is at c.requires in
    IfOk-weaker c.multi_proof.result _ _ (λ reply told.
    steps _ _ _ _ _ c.in-Some.is c.in-Multi.is _ _ g.met.C.Shell.language_is c.args.line.now c.in_ok-request.ensures
    c.args.leaf_parameters.now c.args.pair_parameters.now (state_of c.args.tree.now)
    (Some c.in-Some-tree-5.tree.leaves) reply.items
    (rw (c.in-Some-tree-5.is, ← has.1, ← c.deref-in-Some-tree-5.ensures.value) (takes_told _ _ _ told)))
    c.multi_proof.ensures

pub returns-in-Some-tree-6-clause-step : goal.returns-in-Some-tree-6-clause-step
returns-in-Some-tree-6-clause-step g c =
    IfOk-weaker c.finding_bytes.result _ _ (λ reply told.
    steps _ _ _ _ _ c.in-Some.is c.in-Check.is _ _ g.met.C.Shell.language_is c.args.line.now c.in_ok-request.ensures
    c.args.leaf_parameters.now c.args.pair_parameters.now (state_of c.args.tree.now)
    (Some c.in-Some-tree-6.tree.leaves) reply.items
    (rw (c.in-Some-tree-6.is, ← c.deref-in-Some-tree-6.ensures.value) (takes_told _ _ _
    (tells_found _ c.verdict-found.result reply.items c.verdict-found.ensures told)))) c.finding_bytes.ensures

pub returns-in-Some-tree-7-clause-step : goal.returns-in-Some-tree-7-clause-step
returns-in-Some-tree-7-clause-step g c =
    let has = rw c.in-Some-tree-7.is at c.requires in
    IfOk-weaker c.finding_bytes-in-Some-tree-7.result _ _ (λ reply told.
    steps _ _ _ _ _ c.in-Some.is c.in-Bind.is _ _ g.met.C.Shell.language_is c.args.line.now c.in_ok-request.ensures
    c.args.leaf_parameters.now c.args.pair_parameters.now (state_of c.args.tree.now)
    (Some c.in-Some-tree-7.tree.leaves) reply.items
    (rw (c.in-Some-tree-7.is, ← has.0, ← has.1, ← c.deref-in-Some-tree-7.ensures.value) (takes_told _ _ _
    (tells_found _ c.binding.result reply.items c.binding.ensures told)))) c.finding_bytes-in-Some-tree-7.ensures

pub returns-in-Some-tree-8-clause-step : goal.returns-in-Some-tree-8-clause-step
returns-in-Some-tree-8-clause-step g c =
    IfOk-weaker c.finding_bytes-in-Some-tree-8.result _ _ (λ reply told.
    steps _ _ _ _ _ c.in-Some.is c.in-MultiCheck.is _ _ g.met.C.Shell.language_is c.args.line.now
    c.in_ok-request.ensures
    c.args.leaf_parameters.now c.args.pair_parameters.now (state_of c.args.tree.now)
    (Some c.in-Some-tree-8.tree.leaves) reply.items
    (rw (c.in-Some-tree-8.is, ← c.deref-in-Some-tree-8.ensures.value, ← c.deref-in-Some-tree-8-2.ensures.value)
    (takes_told _ _ _
    (tells_found _ c.multi_verdict-found.result reply.items c.multi_verdict-found.ensures.answer told))))
    c.finding_bytes-in-Some-tree-8.ensures

pub returns-in-Some-tree-9-clause-step : goal.returns-in-Some-tree-9-clause-step
returns-in-Some-tree-9-clause-step g c =
    IfOk-weaker c.finding_bytes-in-Some-tree-9.result _ _ (λ reply told.
    steps _ _ _ _ _ c.in-Some.is c.in-MultiCount.is _ _ g.met.C.Shell.language_is c.args.line.now
    c.in_ok-request.ensures
    c.args.leaf_parameters.now c.args.pair_parameters.now (state_of c.args.tree.now)
    (Some c.in-Some-tree-9.tree.leaves) reply.items
    (rw (c.in-Some-tree-9.is, ← c.deref-in-Some-tree-9.ensures.value, ← c.deref-in-Some-tree-9-2.ensures.value) (
      tells_count _ _ _ _
          c.multi_verdict-found-in-Some-tree-9.result reply.items c.multi_verdict-found-in-Some-tree-9.ensures.answer
          (λ ok. c.multi_verdict-found-in-Some-tree-9.ensures.count ok refl) told,
      refl,
    ))) c.finding_bytes-in-Some-tree-9.ensures

pub returns-clause-step : goal.returns-clause-step
returns-clause-step g c =
    IfOk-weaker c.finding_bytes-in-Strict.result _ _ (λ reply told.
    steps _ _ _ _ _ c.in-Some.is c.in-Strict.is _ _ g.met.C.Shell.language_is c.args.line.now c.in_ok-request.ensures
    c.args.leaf_parameters.now c.args.pair_parameters.now (state_of c.args.tree.now)
    (state_of c.args.tree.now) reply.items
    (rw (← c.deref-in-Strict.ensures.value) (takes_told _ _ _
    (tells_found _ c.strict_count.result reply.items c.strict_count.ensures told)))) c.finding_bytes-in-Strict.ensures
