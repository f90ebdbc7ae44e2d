use Rattle.paxidore_c.proofs.kept_maps.paxidore_kept_map_check.Goals as goal

pub returns-in-Err-clause-found : goal.returns-in-Err-clause-found
returns-in-Err-clause-found c = λ xs keeps. let e = c.in-Err.ensures.found xs keeps in absurd cc
