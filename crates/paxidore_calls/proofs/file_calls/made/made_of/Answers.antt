use Rattle.std.proofs.Common.{◌∙◌, inl, inr, sym}
use Rattle.std.proofs.lemmas.Result.{IfErr-weaker, IfOk-weaker}
use Rattle.paxidore_calls.specs.Plan.{carried}
use Rattle.paxidore_calls.proofs.Made.{dense-intact, dense-other, laid-out, laid-stopped, part-read, part-settles}
use Rattle.paxidore_calls.proofs.file_calls.made.made_of.Goals as goal

-- ---- a part of the two sectors

pub returns-in-Ok-true-clause-same : goal.returns-in-Ok-true-clause-same
returns-in-Ok-true-clause-same g c = λ read size leaves log dense.
    let part = part-read c.new-disk.result.steps g.F.Held.file c.new-disk.ensures.nothing
    ((c.in-Ok-true.ensures.which (read, size)).0 c.in-Ok-true.field-0-test) in
    absurd (dense-other leaves g.F.Held.file log dense part)

pub returns-in-Ok-true-clause-healed : goal.returns-in-Ok-true-clause-healed
returns-in-Ok-true-clause-healed g c = λ read size leaves log spread lost.
    let file = g.F.Held.file in
    let part = part-read c.new-disk.result.steps file c.new-disk.ensures.nothing
    ((c.in-Ok-true.ensures.which (read, size)).0 c.in-Ok-true.field-0-test) in
    let made = laid-out c.lay_out.new.disk.steps c.into_steps.result.items file c.into_steps.ensures
    (c.in-Ok-true.ensures.made (read, size) c.in-Ok-true.field-0-test) in
    IfOk-weaker c.with_sync.result _ _
    (λ steps same. part-settles leaves file (carried steps.items file) log spread part (same file ∙ made))
    c.with_sync.ensures.same

pub returns-in-Ok-true-clause-completed : goal.returns-in-Ok-true-clause-completed
returns-in-Ok-true-clause-completed g c = λ read size part.
    let file = g.F.Held.file in
    let made = laid-out c.lay_out.new.disk.steps c.into_steps.result.items file c.into_steps.ensures
    (c.in-Ok-true.ensures.made (read, size) c.in-Ok-true.field-0-test) in
    IfOk-weaker c.with_sync.result _ _ (λ steps same. same file ∙ made) c.with_sync.ensures.same

pub returns-in-Ok-true-clause-part_stopped : goal.returns-in-Ok-true-clause-part_stopped
returns-in-Ok-true-clause-part_stopped g c = λ read size part.
    let file = g.F.Held.file in
    IfOk-weaker c.with_sync.result _ _
    (λ steps within left stopped. laid-stopped c.new-disk.result.steps c.lay_out.new.disk.steps
    c.into_steps.result.items c.new-disk.result.done file left c.new-disk.ensures.nothing c.new-disk.ensures.start
    c.into_steps.ensures part (λ parts. (c.lay_out.ensures.begun (read, size) parts).each)
    (within file left stopped))
    c.with_sync.ensures.stopped

pub returns-in-Ok-true-clause-stopped : goal.returns-in-Ok-true-clause-stopped
returns-in-Ok-true-clause-stopped g c = λ read size leaves log lost.
    inl (part-read c.new-disk.result.steps g.F.Held.file c.new-disk.ensures.nothing
    ((c.in-Ok-true.ensures.which (read, size)).0 c.in-Ok-true.field-0-test))

pub returns-in-Ok-true-clause-others : goal.returns-in-Ok-true-clause-others
returns-in-Ok-true-clause-others g c = λ read size alone.
    inl (part-read c.new-disk.result.steps g.F.Held.file c.new-disk.ensures.nothing
    ((c.in-Ok-true.ensures.which (read, size)).0 c.in-Ok-true.field-0-test))

pub returns-in-Ok-true-clause-head : goal.returns-in-Ok-true-clause-head
returns-in-Ok-true-clause-head g c = λ read size. IfErr-weaker c.with_sync.result _ _
    (λ why memory head. let clash = sym memory ∙ head in absurd cc) c.with_sync.ensures.refused

pub returns-in-Ok-true-clause-refused : goal.returns-in-Ok-true-clause-refused
returns-in-Ok-true-clause-refused g c = IfErr-weaker c.with_sync.result _ _ (λ why memory. inl (inl memory))
    c.with_sync.ensures.refused

-- ---- any other file

pub returns-in-Ok-false-clause-same : goal.returns-in-Ok-false-clause-same
returns-in-Ok-false-clause-same g c = λ read size leaves log dense.
    c.mended_of.ensures.same read size leaves log (dense-intact g.F.Held.file dense)

pub returns-in-Ok-false-clause-stopped : goal.returns-in-Ok-false-clause-stopped
returns-in-Ok-false-clause-stopped g c = λ read size leaves log lost.
    inr (c.mended_of.ensures.stopped read size leaves log lost)

pub returns-in-Ok-false-clause-others : goal.returns-in-Ok-false-clause-others
returns-in-Ok-false-clause-others g c = λ read size alone. inr (c.mended_of.ensures.others read size alone)
