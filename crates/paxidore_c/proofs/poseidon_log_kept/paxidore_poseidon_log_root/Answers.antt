use Rattle.std.proofs.Common.{inl, sym, ap}
use Rattle.paxidore_calls.specs.Answer.{done_code}
use Rattle.paxidore_c.proofs.Hashed.{refused-gives}
use Rattle.paxidore_c.proofs.poseidon_log_kept.paxidore_poseidon_log_root.Goals as goal

pub returns-in-Ok-clause-answer : goal.returns-in-Ok-clause-answer
returns-in-Ok-clause-answer c = λ inputs parameters spells leaves le keeps.
    inl (sym (ap done_code (c.in-Ok.ensures.answer inputs parameters spells leaves le keeps)))

pub returns-in-Ok-clause-root : goal.returns-in-Ok-clause-root
returns-in-Ok-clause-root c = λ inputs parameters spells leaves le keeps zero.
    c.in-Ok.ensures.root inputs parameters spells leaves le keeps

pub returns-in-Ok-clause-given : goal.returns-in-Ok-clause-given
returns-in-Ok-clause-given c = λ inputs parameters spells.
    let any = c.in-Ok.ensures.given inputs parameters spells in (any.0, any.1, inl (sym (ap done_code any.2)))

pub returns-in-Err-clause-answer : goal.returns-in-Err-clause-answer
returns-in-Err-clause-answer c = λ inputs parameters spells leaves le keeps.
    refused-gives _ c.in-Err.refused c.code.result (c.in-Err.ensures.answer inputs parameters spells leaves le keeps)
    c.code.ensures

pub returns-in-Err-clause-given : goal.returns-in-Err-clause-given
returns-in-Err-clause-given c = λ inputs parameters spells.
    let any = c.in-Err.ensures.given inputs parameters spells in
    (any.0, any.1, refused-gives _ c.in-Err.refused c.code.result any.2 c.code.ensures)
