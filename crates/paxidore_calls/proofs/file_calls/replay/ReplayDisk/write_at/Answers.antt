use Rattle.std.proofs.Common.{◌≤◌, ◌∷◌, [], ◌∙◌, ap, sym, refl, length, take, drop, subst}
use Rattle.log_file.specs.LogFile.{written}
use Rattle.log_file.proofs.Pieces.{piece-written}
use Rattle.log_store.specs.Disk.{Torn}
use Rattle.log_store.proofs.Writes.{piece-beside}
use Rattle.paxidore_calls.specs.Plan.{carried}
use Rattle.paxidore_calls.specs.declared.file_calls.replay.Step.{Step}
use Rattle.paxidore_calls.proofs.Plans.{carried-behind, torn-written, write-crash, write-time}
use Rattle.paxidore_calls.proofs.file_calls.replay.ReplayDisk.write_at.Goals as goal

pub returns-clause-written : goal.returns-clause-written
returns-clause-written g c = λ obeys inside.
    let step : Step = record { at = c.args.at; bytes = c.in-Ok.bytes } in
    rw (c.if-not-put_step.ensures.steps) (carried-behind c.args.self.now.steps (step ∷ []) g.F.Held.file
    ∙ ap (written (carried c.args.self.now.steps g.F.Held.file) c.args.at) c.in-Ok.ensures.items)

pub returns-clause-crash : goal.returns-clause-crash
returns-clause-crash g c = λ obeys inside left stopped.
    let step : Step = record { at = c.args.at; bytes = c.in-Ok.bytes } in
    let le : c.args.self.now.done ≤ length c.args.self.now.steps =
    subst (λ noted. noted.done ≤ length noted.steps) c.self.view_is c.self.invariant.3 in
    rw (← c.in-Ok.ensures.items) (write-crash c.args.self.now.done c.args.self.now.steps step g.F.Held.file le inside
    left
    (rw (c.if-not-put_step.ensures.steps, c.if-not-put_step.ensures.done) at stopped))

pub returns-clause-time : goal.returns-clause-time
returns-clause-time g c = λ obeys.
    let step : Step = record { at = c.args.at; bytes = c.in-Ok.bytes } in
    let le : c.args.self.now.done ≤ length c.args.self.now.steps =
    subst (λ noted. noted.done ≤ length noted.steps) c.self.view_is c.self.invariant.3 in
    rw (c.if-not-put_step.ensures.steps, c.if-not-put_step.ensures.done)
    (write-time c.args.self.now.done c.args.self.now.steps step g.F.Held.file le)

pub returns-clause-torn : goal.returns-clause-torn
returns-clause-torn g c = λ obeys inside.
    let file = carried c.args.self.now.steps g.F.Held.file in
    subst (Torn c.args.at c.args.bytes.now file) (sym (returns-clause-written g c obeys inside))
    (torn-written c.args.at file c.args.bytes.now inside)

pub returns-clause-fresh : goal.returns-clause-fresh
returns-clause-fresh g c = λ obeys inside.
    let file = carried c.args.self.now.steps g.F.Held.file in
    ap (λ f. take (length c.args.bytes.now) (drop c.args.at f)) (returns-clause-written g c obeys inside)
    ∙ piece-written file c.args.bytes.now c.args.at (length c.args.bytes.now) refl inside

pub returns-clause-apart : goal.returns-clause-apart
returns-clause-apart g c = λ obeys inside place earlier apart fresh.
    let file = carried c.args.self.now.steps g.F.Held.file in
    ap (λ f. take (length earlier) (drop place f)) (returns-clause-written g c obeys inside)
    ∙ piece-beside file c.args.bytes.now c.args.at place (length earlier) apart inside ∙ fresh
