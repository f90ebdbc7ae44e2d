use Rattle.std.proofs.Common.{refl, w32}
use Rattle.std.proofs.lemmas.Int.{to_z-of_z}
use Rattle.paxidore_calls.proofs.KeptLogs.{bytes-given, hands-given}
use Rattle.paxidore_c.proofs.log_keeper.hand_over_inclusion.Goals as goal

pub returns-clause-path : goal.returns-clause-path
returns-clause-path c = λ leaves le keeps.
    let fits = to_z-of_z w32 c.hand_over_digests.result (record { sfits = c.hand_over_digests.type_inv }) in
    hands-given (bytes-given _ _ (c.write_inclusion_path.ensures leaves le keeps))
    fits c.hand_over_digests.ensures.handed

pub returns-clause-given : goal.returns-clause-given
returns-clause-given c =
    let fits = to_z-of_z w32 c.hand_over_digests.result (record { sfits = c.hand_over_digests.type_inv }) in
    (_, hands-given refl fits c.hand_over_digests.ensures.handed)
