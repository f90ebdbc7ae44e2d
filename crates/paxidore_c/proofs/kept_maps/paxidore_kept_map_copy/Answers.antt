use Rattle.merkle_map.specs.Sha256.{sha256_map}
use Rattle.paxidore_c.proofs.kept_maps.paxidore_kept_map_copy.Goals as goal

pub returns-in-Err-clause-done : goal.returns-in-Err-clause-done
returns-in-Err-clause-done c = λ xs keeps entries forks.
    absurd (c.in-Err.ensures.room sha256_map xs keeps entries forks)
