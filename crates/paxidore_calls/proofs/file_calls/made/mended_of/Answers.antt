use Rattle.std.proofs.Common.{subst}
use Rattle.std.proofs.lemmas.Result.{IfOk-weaker}
use Rattle.log_store.specs.Sectors.{IsSpread}
use Rattle.paxidore_calls.specs.Plan.{carried}
use Rattle.paxidore_calls.proofs.Made.{intact-settles, newer-by, reads-same}
use Rattle.paxidore_calls.proofs.file_calls.made.mended_of.Goals as goal

pub returns-then-branch-clause-healed : goal.returns-then-branch-clause-healed
returns-then-branch-clause-healed g c = λ read size leaves log spread lost.
    c.healed_of.ensures.healed read size (c.in_ok-own.ensures.layout read size) leaves log
    (newer-by g.F.Held.file spread lost)

pub returns-then-branch-clause-stopped : goal.returns-then-branch-clause-stopped
returns-then-branch-clause-stopped g c = λ read size leaves log lost.
    let is = c.in_ok-own.ensures.layout read size in
    c.healed_of.ensures.stopped read size is leaves log
    (newer-by g.F.Held.file (subst IsSpread is (c.in_ok-is_to_heal.ensures.spread c.if-branch.true)) lost)

pub returns-clause-same : goal.returns-clause-same
returns-clause-same g c = λ read size leaves log intact. c.remade_of.ensures.kept read size leaves log

pub returns-clause-healed : goal.returns-clause-healed
returns-clause-healed g c = λ read size leaves log spread lost.
    let file = g.F.Held.file in
    let intact = c.in_ok-is_to_heal.ensures.healable read size (c.in_ok-own.ensures.layout read size) leaves log
    c.if-branch.false in
    IfOk-weaker c.remade_of.result _ _
    (λ steps same. intact-settles leaves file (carried steps.items file) spread intact log same)
    (c.remade_of.ensures.kept read size leaves log)

pub returns-clause-stopped : goal.returns-clause-stopped
returns-clause-stopped g c = λ read size leaves log lost. IfOk-weaker c.remade_of.result _ _
    (λ steps each left stopped. reads-same leaves g.F.Held.file left (each left stopped) log)
    (c.remade_of.ensures.stopped read size leaves log)
