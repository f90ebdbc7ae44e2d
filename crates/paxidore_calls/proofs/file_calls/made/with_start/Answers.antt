use Rattle.std.proofs.Common.{◌∙◌, refl}
use Rattle.paxidore_calls.specs.declared.file_calls.replay.Step.{Step}
use Rattle.paxidore_calls.proofs.Made.{start-carried, start-stopped}
use Rattle.paxidore_calls.proofs.file_calls.made.with_start.Goals as goal

pub returns-clause-same : goal.returns-clause-same
returns-clause-same c = λ file long is.
    let step : Step = record { at = 0; bytes = c.in-Ok.bytes } in
    start-carried step c.args.plan.items c.insert.new.self.items file c.in_ok-insert.ensures.items refl long
    (c.in-Ok.ensures.items ∙ is)

pub returns-clause-stopped : goal.returns-clause-stopped
returns-clause-stopped c = λ file left long is.
    let step : Step = record { at = 0; bytes = c.in-Ok.bytes } in
    start-stopped step c.args.plan.items c.insert.new.self.items file c.in_ok-insert.ensures.items refl long
    (c.in-Ok.ensures.items ∙ is) left
