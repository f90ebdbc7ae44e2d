use Rattle.paxidore_c.proofs.TwoInputs.{table-refused, two-gives}
use Rattle.paxidore_c.proofs.poseidon_log_insertion.inserted_of.Goals as goal

pub returns-in-Ok-clause-given : goal.returns-in-Ok-clause-given
returns-in-Ok-clause-given c = λ inputs parameters spells.
    let table = c.in-Ok.ensures.read inputs parameters spells in
    two-gives (λ made. made) inputs _ c.inserted_by.result table.0 (c.inserted_by.ensures.given parameters table.1)

pub returns-in-Ok-clause-shows : goal.returns-in-Ok-clause-shows
returns-in-Ok-clause-shows c = λ inputs parameters spells.
    let table = c.in-Ok.ensures.read inputs parameters spells in c.inserted_by.ensures.shows parameters table.1

pub returns-in-Err-clause-given : goal.returns-in-Err-clause-given
returns-in-Err-clause-given c = λ inputs parameters spells.
    table-refused inputs _ c.in-Err.refused (c.in-Err.ensures.read inputs parameters spells)
