use Rattle.std.proofs.Common.{w32}
use Rattle.std.proofs.lemmas.Int.{to_z-of_z}
use Rattle.paxidore_calls.proofs.LogCalls.{tells, where-done}
use Rattle.paxidore_c.proofs.file_calls.paxidore_log_file_root.Goals as goal

pub returns-clause-root : goal.returns-clause-root
returns-clause-root g c =
    let fits = to_z-of_z w32 c.code_of.result (record { sfits = c.code_of.type_inv }) in
    rw fits (λ read leaves log zero. where-done c.root_in.result _ (c.code_of.ensures.done zero)
    (c.root_in.ensures.root read leaves log))

pub returns-clause-refused : goal.returns-clause-refused
returns-clause-refused g c =
    let fits = to_z-of_z w32 c.code_of.result (record { sfits = c.code_of.type_inv }) in
    rw fits (λ read. tells c.root_in.result _ _ c.code_of.ensures.code
    (c.root_in.ensures.refused read))
