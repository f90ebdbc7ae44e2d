use Rattle.std.proofs.Common.{Ok, ap, w32}
use Rattle.std.proofs.lemmas.Int.{to_z-of_z}
use Rattle.std.specs.List.{flat_map}
use Rattle.ark_base.specs.Digits.{itself}
use Rattle.paxidore_calls.proofs.KeptLogs.{hands-given}
use Rattle.paxidore_c.proofs.Inserted.{frontier-same}
use Rattle.paxidore_c.proofs.poseidon_log_insertion.hand_over_insertion.Goals as goal

pub returns-clause-proof : goal.returns-clause-proof
returns-clause-proof c = λ hash leaves peaks le keeps own.
    let fits = to_z-of_z w32 c.hand_over_digests.result (record { sfits = c.hand_over_digests.type_inv }) in
    hands-given (ap (λ l. Ok (flat_map itself l)) (frontier-same own (c.write_insertion_proof.ensures hash leaves le
    keeps))) fits c.hand_over_digests.ensures.handed
