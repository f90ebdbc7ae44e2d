use Rattle.std.proofs.Common.{inl, ap, sym}
use Rattle.paxidore_calls.specs.Answer.{done_code}
use Rattle.paxidore_c.proofs.Hashed.{refused-gives}
use Rattle.paxidore_c.proofs.poseidon.paxidore_poseidon.Goals as goal

pub returns-in-Ok-clause-answer : goal.returns-in-Ok-clause-answer
returns-in-Ok-clause-answer c = λ count parameters spells.
    inl (sym (ap done_code (c.in-Ok.ensures count parameters spells)))

pub returns-in-Err-clause-answer : goal.returns-in-Err-clause-answer
returns-in-Err-clause-answer c = λ count parameters spells.
    refused-gives _ c.in-Err.refused c.code.result (c.in-Err.ensures count parameters spells) c.code.ensures
