use Rattle.std.proofs.Common.{refl}
use Rattle.paxidore_c.proofs.kept_maps.paxidore_kept_map_root.Goals as goal

pub returns-in-Ok-clause-root : goal.returns-in-Ok-clause-root
returns-in-Ok-clause-root c = λ xs keeps. (refl, c.in-Ok.ensures.root xs keeps)

pub returns-in-Err-clause-root : goal.returns-in-Err-clause-root
returns-in-Err-clause-root c = λ xs keeps. let e = c.in-Err.ensures.found xs keeps in absurd cc
