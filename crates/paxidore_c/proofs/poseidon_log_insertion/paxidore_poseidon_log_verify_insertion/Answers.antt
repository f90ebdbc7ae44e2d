use Rattle.paxidore_c.proofs.poseidon_log_insertion.paxidore_poseidon_log_verify_insertion.Goals as goal

pub returns-in-Ok-Some-clause-shows : goal.returns-in-Ok-Some-clause-shows
returns-in-Ok-Some-clause-shows c = λ inputs parameters spells zero.
    c.in-Ok-Some.ensures.shows inputs parameters spells c.in-Ok-Some.made
    c.in-Ok-Some.field-0-is
