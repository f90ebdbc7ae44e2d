use Rattle.std.proofs.Common.{w32}
use Rattle.std.proofs.Math.Logic.{⊎_map}
use Rattle.std.proofs.lemmas.Int.{to_z-of_z}
use Rattle.log_store.specs.Sectors.{sectors_head}
use Rattle.log_store.proofs.Sectoring.{part-none}
use Rattle.paxidore_calls.proofs.LogCalls.{asks-by, left-by, tells, where-done, where-head}
use Rattle.paxidore_calls.proofs.Made.{settles-by}
use Rattle.paxidore_c.proofs.file_calls.making.paxidore_log_file_make.Goals as goal

pub returns-clause-same : goal.returns-clause-same
returns-clause-same g c =
    let fits = to_z-of_z w32 c.code_of.result (record { sfits = c.code_of.type_inv }) in
    rw fits (λ read leaves log dense zero. where-done c.made_in.result _ (c.code_of.ensures.done zero)
    (c.made_in.ensures.same read leaves log dense))

pub returns-clause-healed : goal.returns-clause-healed
returns-clause-healed g c =
    let fits = to_z-of_z w32 c.code_of.result (record { sfits = c.code_of.type_inv }) in
    rw fits (λ read leaves log spread lost zero. where-done c.made_in.result _ (c.code_of.ensures.done zero)
    (c.made_in.ensures.healed read leaves log spread lost))

pub returns-clause-made : goal.returns-clause-made
returns-clause-made g c =
    let fits = to_z-of_z w32 c.code_of.result (record { sfits = c.code_of.type_inv }) in
    rw fits (λ read part zero. where-done c.made_in.result _ (c.code_of.ensures.done zero)
    (c.made_in.ensures.made read part))

pub returns-clause-new : goal.returns-clause-new
returns-clause-new g c =
    let fits = to_z-of_z w32 c.code_of.result (record { sfits = c.code_of.type_inv }) in
    rw fits (λ read empty zero. where-done c.made_in.result _ (c.code_of.ensures.done zero)
    (settles-by c.made_in.result g.file _ _ _ _ _ _
    (c.made_in.ensures.made read (part-none sectors_head g.file empty))))

pub returns-clause-begun : goal.returns-clause-begun
returns-clause-begun g c =
    let fits = to_z-of_z w32 c.code_of.result (record { sfits = c.code_of.type_inv }) in
    rw fits (λ read part zero. where-done c.made_in.result _ (c.code_of.ensures.done zero)
    (c.made_in.ensures.begun read part))

pub returns-clause-stopped : goal.returns-clause-stopped
returns-clause-stopped g c =
    let fits = to_z-of_z w32 c.code_of.result (record { sfits = c.code_of.type_inv }) in
    rw fits (λ read leaves log lost zero. ⊎_map (λ part. part)
    (λ said. where-done c.made_in.result _ (c.code_of.ensures.done zero) said)
    (c.made_in.ensures.stopped read leaves log lost))

pub returns-clause-others : goal.returns-clause-others
returns-clause-others g c =
    let fits = to_z-of_z w32 c.code_of.result (record { sfits = c.code_of.type_inv }) in
    rw fits (λ read alone zero. ⊎_map (λ part. part) (⊎_map (λ part. part)
    (λ said. where-done c.made_in.result _ (c.code_of.ensures.done zero) said))
    (c.made_in.ensures.others read alone))

pub returns-clause-behind : goal.returns-clause-behind
returns-clause-behind g c =
    let fits = to_z-of_z w32 c.code_of.result (record { sfits = c.code_of.type_inv }) in
    rw fits (λ zero. where-done c.made_in.result _ (c.code_of.ensures.done zero) c.made_in.ensures.behind)

pub returns-clause-refused : goal.returns-clause-refused
returns-clause-refused g c =
    let fits = to_z-of_z w32 c.code_of.result (record { sfits = c.code_of.type_inv }) in
    rw fits (tells c.made_in.result _ _ c.code_of.ensures.code c.made_in.ensures.refused)

pub returns-clause-head : goal.returns-clause-head
returns-clause-head g c =
    let fits = to_z-of_z w32 c.code_of.result (record { sfits = c.code_of.type_inv }) in
    rw fits (λ read damaged. where-head c.made_in.result (c.code_of.ensures.head damaged)
    (c.made_in.ensures.head read))

pub returns-clause-first : goal.returns-clause-first
returns-clause-first g c =
    let fits = to_z-of_z w32 c.code_of.result (record { sfits = c.code_of.type_inv }) in
    rw fits (asks-by _ _ _ _ _ _ _ c.code_of.ensures.more c.code_of.ensures.asked c.made_in.ensures.first)

pub returns-clause-left : goal.returns-clause-left
returns-clause-left g c =
    let fits = to_z-of_z w32 c.code_of.result (record { sfits = c.code_of.type_inv }) in
    rw fits (left-by c.made_in.result c.code_of.result _ _ _ _ _ _ _ _ c.code_of.ensures.code
    c.made_in.ensures.left)
