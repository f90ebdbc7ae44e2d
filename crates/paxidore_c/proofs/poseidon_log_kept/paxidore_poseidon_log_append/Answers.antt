use Rattle.std.proofs.Common.{[], Ok, w32, eq-eqb}
use Rattle.std.proofs.lemmas.Int.{to_z-of_z}
use Rattle.paxidore_c.proofs.Hashed.{refused-gives}
use Rattle.paxidore_c.proofs.TwoInputs.{table-refused}
use Rattle.paxidore_c.proofs.poseidon_log_kept.paxidore_poseidon_log_append.Goals as goal

pub returns-in-Ok-clause-answer : goal.returns-in-Ok-clause-answer
returns-in-Ok-clause-answer c = λ inputs parameters spells leaves count keeps all.
    let table = c.in-Ok.ensures.read inputs parameters spells in
    let fits = to_z-of_z w32 c.append_elements.result (record { sfits = c.append_elements.type_inv }) in
    rw (fits, eq-eqb inputs 2 table.0) (c.append_elements.ensures.answer parameters table.1 leaves count keeps all)

pub returns-in-Ok-clause-grows : goal.returns-in-Ok-clause-grows
returns-in-Ok-clause-grows c = λ inputs parameters spells zero leaves count keeps.
    let table = c.in-Ok.ensures.read inputs parameters spells in
    let fits = to_z-of_z w32 c.append_elements.result (record { sfits = c.append_elements.type_inv }) in
    c.append_elements.ensures.grows parameters table.1 (rw fits at zero) leaves count keeps

pub returns-in-Ok-clause-given : goal.returns-in-Ok-clause-given
returns-in-Ok-clause-given c = λ inputs parameters spells.
    let table = c.in-Ok.ensures.read inputs parameters spells in
    let fits = to_z-of_z w32 c.append_elements.result (record { sfits = c.append_elements.type_inv }) in
    let any = c.append_elements.ensures.given in
    (any.0, any.1, rw (fits, eq-eqb inputs 2 table.0) any.2)

pub returns-in-Err-clause-answer : goal.returns-in-Err-clause-answer
returns-in-Err-clause-answer c = λ inputs parameters spells leaves count keeps all.
    refused-gives _ c.in-Err.refused c.code.result
    (table-refused inputs _ c.in-Err.refused (c.in-Err.ensures.read inputs parameters spells)) c.code.ensures

pub returns-in-Err-clause-given : goal.returns-in-Err-clause-given
returns-in-Err-clause-given c = λ inputs parameters spells. (
  Ok [],
  tt,
  refused-gives _ c.in-Err.refused c.code.result
      (table-refused inputs _ c.in-Err.refused (c.in-Err.ensures.read inputs parameters spells)) c.code.ensures,
)
