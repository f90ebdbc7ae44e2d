use Rattle.paxidore_c.proofs.poseidon_log.paxidore_poseidon_root.Goals as goal

pub returns-in-Ok-clause-root : goal.returns-in-Ok-clause-root
returns-in-Ok-clause-root c = λ inputs parameters spells zero. c.in-Ok.ensures.root inputs parameters spells
