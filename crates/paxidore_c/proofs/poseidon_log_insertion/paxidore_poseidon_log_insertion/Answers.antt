use Rattle.std.proofs.Common.{arith, w32}
use Rattle.std.proofs.lemmas.Int.{to_z-of_z}
use Rattle.paxidore_calls.proofs.KeptLogs.{hands-given}
use Rattle.paxidore_c.proofs.Inserted.{all-some}
use Rattle.paxidore_c.proofs.poseidon_log_insertion.paxidore_poseidon_log_insertion.Goals as goal

pub returns-clause-proof : goal.returns-clause-proof
returns-clause-proof c = λ hash leaves peaks le keeps own.
    let fits = to_z-of_z w32 c.hand_over_insertion.result (record { sfits = c.hand_over_insertion.type_inv }) in
    hands-given (all-some c.args.size c.args.kept.now _ c.in-Some.ensures.0 (omega (arith, c.if-size-eq0.false)))
    fits ((rw (c.in-Some.ensures.1) at c.hand_over_insertion.ensures.proof) hash leaves peaks le keeps own)
