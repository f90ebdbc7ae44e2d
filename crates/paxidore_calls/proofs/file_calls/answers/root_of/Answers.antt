use Rattle.std.proofs.Common.{ℕ, List, Ok, Some, sym, subst}
use Rattle.log_file.specs.Faults.{of_first}
use Rattle.log_file.specs.LogFile.{IsLogFile}
use Rattle.paxidore_calls.specs.Layouts.{log_in}
use Rattle.paxidore_calls.proofs.Layouts.{read-of}
use Rattle.paxidore_calls.proofs.LogCalls.{of-replay}
use Rattle.paxidore_calls.proofs.file_calls.answers.root_of.Goals as goal

pub returns-in-Ok-clause-root : goal.returns-in-Ok-clause-root
returns-in-Ok-clause-root g c = λ read size leaves log.
    let seen = read-of c.in_ok-own.own.layout c.in_ok-own.own.disk.steps g.F.Held.file
    (c.in_ok-own.ensures.layout read size) c.in_ok-own.ensures.nothing in
    let found = c.in-Ok.ensures.root (read, size) leaves (subst (IsLogFile leaves) (sym seen) log) in
    (rw (found.0) at found.1, rw (found.0) at found.2)

pub returns-clause-refused : goal.returns-clause-refused
returns-clause-refused g c = λ read size.
    let seen = read-of c.in_ok-own.own.layout c.in_ok-own.own.disk.steps g.F.Held.file
    (c.in_ok-own.ensures.layout read size) c.in_ok-own.ensures.nothing in
    of-replay (ℕ × List ℕ) (log_in g.F.Held.file) _ (λ file. of_first file (Some c.args.size) Ok) c.in-Err.stop
    c.of_stop.result seen (c.in-Err.ensures.refused (read, size)) c.of_stop.ensures.is
