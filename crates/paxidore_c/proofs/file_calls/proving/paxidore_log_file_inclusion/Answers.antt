use Rattle.std.proofs.Common.{w32}
use Rattle.std.proofs.lemmas.Int.{to_z-of_z}
use Rattle.paxidore_calls.proofs.LogCalls.{tells, where-done}
use Rattle.paxidore_c.proofs.file_calls.proving.paxidore_log_file_inclusion.Goals as goal

pub returns-clause-path : goal.returns-clause-path
returns-clause-path g c =
    let fits = to_z-of_z w32 c.code_of.result (record { sfits = c.code_of.type_inv }) in
    rw fits (λ read leaves log zero. where-done c.inclusion_in.result _ (c.code_of.ensures.done zero)
    (c.inclusion_in.ensures.path read leaves log))

pub returns-clause-refused : goal.returns-clause-refused
returns-clause-refused g c =
    let fits = to_z-of_z w32 c.code_of.result (record { sfits = c.code_of.type_inv }) in
    rw fits (λ read. tells c.inclusion_in.result _ _ c.code_of.ensures.code
    (c.inclusion_in.ensures.refused read))

pub returns-clause-room_needed : goal.returns-clause-room_needed
returns-clause-room_needed g c =
    let fits = to_z-of_z w32 c.code_of.result (record { sfits = c.code_of.type_inv }) in
    rw fits (λ read leaves log some room.
    c.inclusion_in.ensures.room_needed read leaves log some (c.code_of.ensures.room room))
