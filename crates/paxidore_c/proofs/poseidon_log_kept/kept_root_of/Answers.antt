use Rattle.std.proofs.Common.{◌≡◌, [], true, false, nat_lt, Ok, inr, refl, ap, arith}
use Rattle.std.proofs.lemmas.Bool.{le-ltb, lt-ltb}
use Rattle.circom.specs.Nodes.{refusal_error}
use Rattle.paxidore_calls.specs.Answer.{refusing}
use Rattle.paxidore_c.specs.PoseidonLog.{kept_root_given}
use Rattle.paxidore_calls.specs.declared.refused.Refused.TheVariants.{Size}
use Rattle.paxidore_c.proofs.KeptGiven.{any-refused}
use Rattle.paxidore_c.proofs.TwoInputs.{library-refused, table-refused, two-given, two-refused}
use Rattle.paxidore_c.proofs.poseidon_log_kept.kept_root_of.Goals as goal

pub returns-in-Err-clause-given : goal.returns-in-Err-clause-given
returns-in-Err-clause-given c = λ inputs parameters spells.
    (Ok [], tt, table-refused inputs _ c.in-Err.refused (c.in-Err.ensures.read inputs parameters spells))

pub returns-in-Err-clause-answer : goal.returns-in-Err-clause-answer
returns-in-Err-clause-answer c = λ inputs parameters spells leaves le keeps.
    table-refused inputs _ c.in-Err.refused (c.in-Err.ensures.read inputs parameters spells)

pub returns-in-None-clause-given : goal.returns-in-None-clause-given
returns-in-None-clause-given c = λ inputs parameters spells.
    let table = c.in-Ok.ensures.read inputs parameters spells in
    (Ok [], tt, two-refused inputs _ Size table.0 (inr (rw (c.in-None.ensures) refl)))

pub returns-in-None-clause-answer : goal.returns-in-None-clause-answer
returns-in-None-clause-answer c = λ inputs parameters spells leaves le keeps.
    let table = c.in-Ok.ensures.read inputs parameters spells in
    two-refused inputs _ Size table.0 (inr (rw (c.in-None.ensures) refl))

pub returns-then-size-eq0-clause-given : goal.returns-then-size-eq0-clause-given
returns-then-size-eq0-clause-given c = λ inputs parameters spells.
    let table = c.in-Ok.ensures.read inputs parameters spells in
    let none : nat_lt 0 c.args.size ≡ false = le-ltb 0 c.args.size (omega arith) in
    (Ok [], tt, two-refused inputs _ Size table.0 (inr (rw (c.in-Some.ensures.0, none) refl)))

pub returns-then-size-eq0-clause-answer : goal.returns-then-size-eq0-clause-answer
returns-then-size-eq0-clause-answer c = λ inputs parameters spells leaves le keeps.
    let table = c.in-Ok.ensures.read inputs parameters spells in
    let none : nat_lt 0 c.args.size ≡ false = le-ltb 0 c.args.size (omega arith) in
    two-refused inputs _ Size table.0 (inr (rw (c.in-Some.ensures.0, none) refl))

pub returns-in-Ok-kept_log_root-clause-given : goal.returns-in-Ok-kept_log_root-clause-given
returns-in-Ok-kept_log_root-clause-given c = λ inputs parameters spells.
    let table = c.in-Ok.ensures.read inputs parameters spells in
    let some : nat_lt 0 c.args.size ≡ true = lt-ltb 0 c.args.size (omega arith) in
    (Ok c.in-Ok-kept_log_root.root, tt, two-given inputs _ _ table.0 (rw (c.in-Some.ensures.0, some) refl))

pub returns-in-Ok-kept_log_root-clause-answer : goal.returns-in-Ok-kept_log_root-clause-answer
returns-in-Ok-kept_log_root-clause-answer c = λ inputs parameters spells leaves le keeps.
    let table = c.in-Ok.ensures.read inputs parameters spells in
    let some : nat_lt 0 c.args.size ≡ true = lt-ltb 0 c.args.size (omega arith) in
    two-given inputs _ _ table.0 (rw (c.in-Some.ensures.0, some) (ap refusing
    ((rw (c.in-Some.ensures.1) at c.in-Ok-kept_log_root.ensures.root) parameters table.1 leaves le keeps [])))

pub returns-in-Ok-kept_log_root-clause-root : goal.returns-in-Ok-kept_log_root-clause-root
returns-in-Ok-kept_log_root-clause-root c = λ inputs parameters spells leaves le keeps.
    let table = c.in-Ok.ensures.read inputs parameters spells in
    (rw (c.in-Some.ensures.1) at c.in-Ok-kept_log_root.ensures.root) parameters table.1 leaves le keeps []

pub returns-clause-given : goal.returns-clause-given
returns-clause-given c = λ inputs parameters spells.
    let table = c.in-Ok.ensures.read inputs parameters spells in
    let some : nat_lt 0 c.args.size ≡ true = lt-ltb 0 c.args.size (omega arith) in
    any-refused (kept_root_given inputs c.args.size c.args.kept.now)
    (λ given. two-given inputs _ _ table.0 (rw (c.in-Some.ensures.0, some) refl)) c.in-Err-kept_log_root.refusal
    c.from.result
    c.from.ensures

pub returns-clause-answer : goal.returns-clause-answer
returns-clause-answer c = λ inputs parameters spells leaves le keeps.
    let table = c.in-Ok.ensures.read inputs parameters spells in
    let some : nat_lt 0 c.args.size ≡ true = lt-ltb 0 c.args.size (omega arith) in
    two-refused inputs _ c.from.result table.0 (rw (c.in-Some.ensures.0, some) (library-refused _
    (refusal_error c.in-Err-kept_log_root.refusal) c.from.result
    ((rw (c.in-Some.ensures.1) at c.in-Err-kept_log_root.ensures.root) parameters table.1 leaves le keeps [])
    c.from.ensures))
