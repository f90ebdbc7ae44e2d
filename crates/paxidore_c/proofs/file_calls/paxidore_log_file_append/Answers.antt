use Rattle.std.proofs.Common.{w32}
use Rattle.std.proofs.lemmas.Int.{to_z-of_z}
use Rattle.paxidore_calls.proofs.LogCalls.{asks-by, kept-by, left-by, tells, where-done}
use Rattle.paxidore_c.proofs.file_calls.paxidore_log_file_append.Goals as goal

pub returns-clause-grows : goal.returns-clause-grows
returns-clause-grows g c =
    let fits = to_z-of_z w32 c.code_of.result (record { sfits = c.code_of.type_inv }) in
    rw fits (λ read leaves log some zero. where-done c.append_in.result _ (c.code_of.ensures.done zero)
    (c.append_in.ensures.grows read leaves log some))

pub returns-clause-none : goal.returns-clause-none
returns-clause-none g c =
    let fits = to_z-of_z w32 c.code_of.result (record { sfits = c.code_of.type_inv }) in
    rw fits (λ read leaves log some zero. where-done c.append_in.result _ (c.code_of.ensures.done zero)
    (c.append_in.ensures.none read leaves log some))

pub returns-clause-refused : goal.returns-clause-refused
returns-clause-refused g c =
    let fits = to_z-of_z w32 c.code_of.result (record { sfits = c.code_of.type_inv }) in
    rw fits (λ read. tells c.append_in.result _ _ c.code_of.ensures.code
    (c.append_in.ensures.refused read))

pub returns-clause-lost : goal.returns-clause-lost
returns-clause-lost g c =
    let fits = to_z-of_z w32 c.code_of.result (record { sfits = c.code_of.type_inv }) in
    rw fits (λ read lost some zero. where-done c.append_in.result _ (c.code_of.ensures.done zero)
    (c.append_in.ensures.lost read lost some))

pub returns-clause-first : goal.returns-clause-first
returns-clause-first g c =
    let fits = to_z-of_z w32 c.code_of.result (record { sfits = c.code_of.type_inv }) in
    rw fits (asks-by _ _ _ _ _ _ _ c.code_of.ensures.more c.code_of.ensures.asked c.append_in.ensures.first)

pub returns-clause-left : goal.returns-clause-left
returns-clause-left g c =
    let fits = to_z-of_z w32 c.code_of.result (record { sfits = c.code_of.type_inv }) in
    rw fits (left-by c.append_in.result c.code_of.result _ _ _ _ _ _ _ _ c.code_of.ensures.code
    c.append_in.ensures.left)

pub returns-clause-size_kept : goal.returns-clause-size_kept
returns-clause-size_kept g c =
    let fits = to_z-of_z w32 c.code_of.result (record { sfits = c.code_of.type_inv }) in
    rw fits (kept-by c.append_in.result c.code_of.result c.code_of.ensures.code c.append_in.ensures.size_kept)
