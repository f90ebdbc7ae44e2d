use Rattle.merkle_map.proofs.Answered.{ok_anyway}
use Rattle.merkle_map.proofs.ProofReading.{told-of32}
use Rattle.merkle_map.proofs.proof_bytes.push_siblings.Goals as goal

pub returns-clause-sized : goal.returns-clause-sized
returns-clause-sized c = ok_anyway c.push_given.result _ (told-of32 c.args.siblings.now c.told-siblings)
