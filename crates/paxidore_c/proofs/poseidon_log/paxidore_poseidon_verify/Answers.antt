use Rattle.std.proofs.Common.{w32, eq-eqb}
use Rattle.std.proofs.lemmas.Int.{to_z-of_z}
use Rattle.paxidore_c.proofs.TwoInputs.{refused-shown, table-refused}
use Rattle.paxidore_c.proofs.poseidon_log.paxidore_poseidon_verify.Goals as goal

pub returns-in-Ok-clause-answer : goal.returns-in-Ok-clause-answer
returns-in-Ok-clause-answer c = λ inputs parameters spells.
    let table = c.in-Ok.ensures.read inputs parameters spells in
    let fits = to_z-of_z w32 c.verify_by.result (record { sfits = c.verify_by.type_inv }) in
    rw (fits, eq-eqb inputs 2 table.0) (c.verify_by.ensures.answer parameters table.1)

pub returns-in-Ok-clause-shows : goal.returns-in-Ok-clause-shows
returns-in-Ok-clause-shows c = λ inputs parameters spells zero.
    let table = c.in-Ok.ensures.read inputs parameters spells in
    let fits = to_z-of_z w32 c.verify_by.result (record { sfits = c.verify_by.type_inv }) in
    c.verify_by.ensures.shows parameters table.1 (rw fits at zero)

pub returns-in-Err-clause-answer : goal.returns-in-Err-clause-answer
returns-in-Err-clause-answer c = λ inputs parameters spells.
    refused-shown _ c.in-Err.refused c.code.result
    (table-refused inputs _ c.in-Err.refused (c.in-Err.ensures.read inputs parameters spells)) c.code.ensures
