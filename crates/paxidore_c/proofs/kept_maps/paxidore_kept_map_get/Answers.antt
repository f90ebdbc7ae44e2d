use Rattle.std.proofs.Common.{refl}
use Rattle.merkle_map.specs.Sha256.{sha256_map}
use Rattle.paxidore_c.proofs.kept_maps.paxidore_kept_map_get.Goals as goal

pub returns-in-Ok-Some-clause-found : goal.returns-in-Ok-Some-clause-found
returns-in-Ok-Some-clause-found c = λ xs keeps zero.
    let e = c.in-Ok-Some.ensures.found sha256_map xs keeps in cc

pub returns-in-Ok-None-clause-none : goal.returns-in-Ok-None-clause-none
returns-in-Ok-None-clause-none c = λ xs keeps other.
    (refl, let e = c.in-Ok-None.ensures.found sha256_map xs keeps in cc)

pub returns-in-Err-clause-none : goal.returns-in-Err-clause-none
returns-in-Err-clause-none c = λ xs keeps other.
    let e = c.in-Err.ensures.found sha256_map xs keeps in absurd cc
