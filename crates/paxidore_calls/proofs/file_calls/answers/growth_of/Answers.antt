use Rattle.std.proofs.Common.{◌++◌, ℕ, length, ⊎_elim, sym, subst}
use Rattle.std.proofs.lemmas.Result.{err_from_is_err_and}
use Rattle.log_file.specs.Append.{appended_size}
use Rattle.log_file.specs.LogFile.{IsLogFile}
use Rattle.paxidore_calls.specs.Layouts.{grown_size, log_in}
use Rattle.paxidore_calls.proofs.Layouts.{append-lies, append-stopped, durable-start, grown-settled, moment-stopped, read-of, stopped-longer}
use Rattle.paxidore_calls.proofs.LogCalls.{grown-lost, grown-there, of-replay, other-reason}
use Rattle.paxidore_calls.proofs.file_calls.answers.growth_of.Goals as goal

pub returns-in_ok-steps-in-Ok-clause-grown : goal.returns-in_ok-steps-in-Ok-clause-grown
returns-in_ok-steps-in-Ok-clause-grown g c = λ read size leaves log.
    let own = c.in_ok-own.own in
    let new = c.append.new.disk in
    let is = c.in_ok-own.ensures.layout read size in
    let seen = read-of own.layout own.disk.steps g.F.Held.file is c.in_ok-own.ensures.nothing in
    grown-settled (leaves ++ c.args.digests.now) own.layout new.layout new.disk.steps c.in_ok-steps-in-Ok.steps.items
    g.F.Held.file is c.in_ok-own.ensures.there c.in_ok-steps-in-Ok.ensures.layout c.in_ok-steps-in-Ok.ensures.steps
    (c.in-Ok.ensures.acknowledged (read, size) leaves (subst (IsLogFile leaves) (sym seen) log))

pub returns-in_ok-steps-in-Ok-clause-stopped : goal.returns-in_ok-steps-in-Ok-clause-stopped
returns-in_ok-steps-in-Ok-clause-stopped g c = λ read size leaves log left stopped.
    let own = c.in_ok-own.own in
    let new = c.append.new.disk in
    let is = c.in_ok-own.ensures.layout read size in
    let none = c.in_ok-own.ensures.nothing in
    let seen = read-of own.layout own.disk.steps g.F.Held.file is none in
    let run = c.append.ensures.any_moment (read, size) leaves (subst (IsLogFile leaves) (sym seen) log)
    (durable-start own.layout own.disk.steps own.disk.done g.F.Held.file (length leaves) none) in
    append-stopped own.layout g.F.Held.file is c.in_ok-own.ensures.there leaves c.args.digests.now left
    (stopped-longer c.in_ok-steps-in-Ok.steps.items g.F.Held.file left stopped)
    (moment-stopped leaves c.args.digests.now own.layout new.layout own.disk.steps new.disk.steps
    c.in_ok-steps-in-Ok.steps.items own.disk.done g.F.Held.file left c.in_ok-steps-in-Ok.ensures.layout none
    c.in_ok-own.ensures.start c.in_ok-steps-in-Ok.ensures.steps run.each stopped)

pub returns-in_ok-steps-in-Ok-clause-layout : goal.returns-in_ok-steps-in-Ok-clause-layout
returns-in_ok-steps-in-Ok-clause-layout g c = λ read size leaves log left stopped.
    let own = c.in_ok-own.own in
    let new = c.append.new.disk in
    let is = c.in_ok-own.ensures.layout read size in
    let none = c.in_ok-own.ensures.nothing in
    let seen = read-of own.layout own.disk.steps g.F.Held.file is none in
    let run = c.append.ensures.any_moment (read, size) leaves (subst (IsLogFile leaves) (sym seen) log)
    (durable-start own.layout own.disk.steps own.disk.done g.F.Held.file (length leaves) none) in
    append-lies own.layout g.F.Held.file is c.in_ok-own.ensures.there leaves c.args.digests.now left
    (stopped-longer c.in_ok-steps-in-Ok.steps.items g.F.Held.file left stopped)
    (moment-stopped leaves c.args.digests.now own.layout new.layout own.disk.steps new.disk.steps
    c.in_ok-steps-in-Ok.steps.items own.disk.done g.F.Held.file left c.in_ok-steps-in-Ok.ensures.layout none
    c.in_ok-own.ensures.start c.in_ok-steps-in-Ok.ensures.steps run.each stopped)

pub returns-in_ok-steps-in-Ok-clause-size : goal.returns-in_ok-steps-in-Ok-clause-size
returns-in_ok-steps-in-Ok-clause-size g c = λ read size leaves log.
    let own = c.in_ok-own.own in
    let is = c.in_ok-own.ensures.layout read size in
    let seen = read-of own.layout own.disk.steps g.F.Held.file is c.in_ok-own.ensures.nothing in
    c.in-Ok.ensures.size (read, size) leaves (subst (IsLogFile leaves) (sym seen) log)

pub returns-in-Err-clause-refused : goal.returns-in-Err-clause-refused
returns-in-Err-clause-refused g c = λ read size.
    let own = c.in_ok-own.own in
    let is = c.in_ok-own.ensures.layout read size in
    let seen = read-of own.layout own.disk.steps g.F.Held.file is c.in_ok-own.ensures.nothing in
    grown-there g.F.Held.file (length c.args.digests.now) c.of_stop.result own.layout is c.in_ok-own.ensures.there
    (of-replay ℕ (log_in g.F.Held.file) _ (λ file. appended_size file (length c.args.digests.now)) c.in-Err.stop
    c.of_stop.result seen (c.in-Err.ensures.refused (read, size)) c.of_stop.ensures.is)

pub returns-in_err-own-clause-refused : goal.returns-in_err-own-clause-refused
returns-in_err-own-clause-refused g c = λ read size.
    let file = g.F.Held.file in
    let e = err_from_is_err_and c.from_residual.result c.from_residual.ensures.1 in
    rw (e.1, e.2) (⊎_elim
    (λ other. other-reason (log_in file) (grown_size file (length c.args.digests.now)) _ other)
    (λ head. grown-lost file (length c.args.digests.now) _ c.requires.some (c.in_err-own.ensures.lost read size head)
    head)
    c.in_err-own.ensures.refused)
