use Rattle.std.proofs.Common.{List, ℕ, Some, sym, subst}
use Rattle.log_file.specs.LogFile.{IsLogFile}
use Rattle.log_store.specs.Refused.{older_outcome}
use Rattle.log_store.specs.declared.proving.ConsistencyProof.{ConsistencyProof}
use Rattle.paxidore_calls.specs.Layouts.{log_in}
use Rattle.paxidore_calls.proofs.Layouts.{read-of}
use Rattle.paxidore_calls.proofs.LogCalls.{of-replay}
use Rattle.paxidore_calls.proofs.file_calls.answers.proof_of.Goals as goal

pub returns-in-Ok-clause-path : goal.returns-in-Ok-clause-path
returns-in-Ok-clause-path g c = λ read size leaves log.
    let seen = read-of c.in_ok-own.own.layout c.in_ok-own.own.disk.steps g.F.Held.file
    (c.in_ok-own.ensures.layout read size) c.in_ok-own.ensures.nothing in
    c.in-Ok.ensures.proof (read, size) leaves (subst (IsLogFile leaves) (sym seen) log)

pub returns-clause-refused : goal.returns-clause-refused
returns-clause-refused g c = λ read size.
    let seen = read-of c.in_ok-own.own.layout c.in_ok-own.own.disk.steps g.F.Held.file
    (c.in_ok-own.ensures.layout read size) c.in_ok-own.ensures.nothing in
    of-replay ConsistencyProof (log_in g.F.Held.file) _
    (λ (file : List ℕ). older_outcome file (Some c.args.size) c.args.old_size) c.in-Err.stop c.of_stop.result seen
    (c.in-Err.ensures.refused (read, size)) c.of_stop.ensures.is
