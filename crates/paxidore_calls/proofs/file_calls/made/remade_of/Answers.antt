use Rattle.std.proofs.Common.{sym, subst}
use Rattle.std.proofs.Math.Logic.{⊎_map}
use Rattle.std.proofs.lemmas.Result.{IfOk-weaker}
use Rattle.log_file.specs.LogFile.{IsLogFile}
use Rattle.log_store.specs.Store.{new_head, IsPartOf}
use Rattle.paxidore_calls.specs.Layouts.{IsSameLog}
use Rattle.paxidore_calls.proofs.Layouts.{read-of, steps-same}
use Rattle.paxidore_calls.proofs.Made.{remade-stopped}
use Rattle.paxidore_calls.proofs.file_calls.made.remade_of.Goals as goal

pub returns-in_ok-steps-in-Ok-clause-kept : goal.returns-in_ok-steps-in-Ok-clause-kept
returns-in_ok-steps-in-Ok-clause-kept g c = λ read size leaves log.
    let file = g.F.Held.file in
    let own = c.in_ok-own.own in
    let new = c.make.new.disk in
    let is = c.in_ok-own.ensures.layout read size in
    let none = c.in_ok-own.ensures.nothing in
    let seen = read-of own.layout own.disk.steps file is none in
    let same = steps-same own.layout new.layout own.disk.steps new.disk.steps c.in_ok-steps-in-Ok.steps.items file is
    c.in_ok-own.ensures.there c.in_ok-steps-in-Ok.ensures.layout none c.in_ok-steps-in-Ok.ensures.steps
    (c.in-Ok.ensures.kept (read, size) leaves (subst (IsLogFile leaves) (sym seen) log)) in
    IfOk-weaker c.with_sync.result _ _ (λ steps carries. subst (IsSameLog file) (sym (carries file)) same)
    c.with_sync.ensures.same

pub returns-in_ok-steps-in-Ok-clause-stopped : goal.returns-in_ok-steps-in-Ok-clause-stopped
returns-in_ok-steps-in-Ok-clause-stopped g c = λ read size leaves log.
    let file = g.F.Held.file in
    let own = c.in_ok-own.own in
    let new = c.make.new.disk in
    let is = c.in_ok-own.ensures.layout read size in
    let none = c.in_ok-own.ensures.nothing in
    let seen = read-of own.layout own.disk.steps file is none in
    let there = subst (IsLogFile leaves) (sym seen) log in
    let run = c.make.ensures.any_moment (read, size) leaves there in
    IfOk-weaker c.with_sync.result _ _
    (λ steps within. λ left stopped. remade-stopped leaves own.layout new.layout own.disk.steps new.disk.steps
    c.in_ok-steps-in-Ok.steps.items own.disk.done file left is c.in_ok-own.ensures.there
    c.in_ok-steps-in-Ok.ensures.layout none c.in_ok-own.ensures.start c.in_ok-steps-in-Ok.ensures.steps there run.each
    (within file left stopped))
    c.with_sync.ensures.stopped

pub returns-in_ok-steps-in-Ok-clause-others : goal.returns-in_ok-steps-in-Ok-clause-others
returns-in_ok-steps-in-Ok-clause-others g c = λ read size.
    let file = g.F.Held.file in
    let own = c.in_ok-own.own in
    let new = c.make.new.disk in
    let is = c.in_ok-own.ensures.layout read size in
    let none = c.in_ok-own.ensures.nothing in
    let seen = read-of own.layout own.disk.steps file is none in
    ⊎_map (subst (IsPartOf new_head) seen)
    (λ left. IfOk-weaker c.with_sync.result _ _
    (λ steps carries. subst (IsSameLog file) (sym (carries file))
    (steps-same own.layout new.layout own.disk.steps new.disk.steps c.in_ok-steps-in-Ok.steps.items file is
    c.in_ok-own.ensures.there c.in_ok-steps-in-Ok.ensures.layout none c.in_ok-steps-in-Ok.ensures.steps left))
    c.with_sync.ensures.same) (c.in-Ok.ensures.others (read, size))
