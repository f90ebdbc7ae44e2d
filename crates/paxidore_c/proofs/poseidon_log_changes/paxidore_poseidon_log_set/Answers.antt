use Rattle.std.proofs.Common.{[], Ok, inl, w32, eq-eqb}
use Rattle.std.proofs.lemmas.Int.{to_z-of_z}
use Rattle.paxidore_c.proofs.Hashed.{refused-gives}
use Rattle.paxidore_c.proofs.TwoInputs.{table-refused}
use Rattle.paxidore_c.proofs.poseidon_log_changes.paxidore_poseidon_log_set.Goals as goal

pub returns-in-Ok-clause-answer : goal.returns-in-Ok-clause-answer
returns-in-Ok-clause-answer c = λ inputs parameters spells leaves count keeps.
    let table = c.in-Ok.ensures.read inputs parameters spells in
    let fits = to_z-of_z w32 c.set_element.result (record { sfits = c.set_element.type_inv }) in
    rw (fits, eq-eqb inputs 2 table.0) (inl (c.set_element.ensures.answer parameters table.1 leaves count keeps))

pub returns-in-Ok-clause-changes : goal.returns-in-Ok-clause-changes
returns-in-Ok-clause-changes c = λ inputs parameters spells zero leaves count keeps.
    let table = c.in-Ok.ensures.read inputs parameters spells in
    let fits = to_z-of_z w32 c.set_element.result (record { sfits = c.set_element.type_inv }) in
    c.set_element.ensures.changes parameters table.1 (rw fits at zero) leaves count keeps

pub returns-in-Ok-clause-given : goal.returns-in-Ok-clause-given
returns-in-Ok-clause-given c = λ inputs parameters spells.
    let table = c.in-Ok.ensures.read inputs parameters spells in
    let fits = to_z-of_z w32 c.set_element.result (record { sfits = c.set_element.type_inv }) in
    let any = c.set_element.ensures.given in
    (any.0, any.1, rw (fits, eq-eqb inputs 2 table.0) (inl any.2))

pub returns-in-Err-clause-answer : goal.returns-in-Err-clause-answer
returns-in-Err-clause-answer c = λ inputs parameters spells leaves count keeps.
    refused-gives _ c.in-Err.refused c.code.result
    (table-refused inputs _ c.in-Err.refused (c.in-Err.ensures.read inputs parameters spells)) c.code.ensures

pub returns-in-Err-clause-given : goal.returns-in-Err-clause-given
returns-in-Err-clause-given c = λ inputs parameters spells. (
  Ok [],
  tt,
  refused-gives _ c.in-Err.refused c.code.result
      (table-refused inputs _ c.in-Err.refused (c.in-Err.ensures.read inputs parameters spells)) c.code.ensures,
)
