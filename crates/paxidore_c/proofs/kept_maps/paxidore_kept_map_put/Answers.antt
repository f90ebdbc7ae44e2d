use Rattle.std.proofs.Common.{sym, w32, ◌∙◌}
use Rattle.std.proofs.lemmas.Int.{to_z-of_z}
use Rattle.merkle_map.specs.Sha256.{sha256_map}
use Rattle.paxidore_c.proofs.KeptMapCalls.{is_done, on_done}
use Rattle.paxidore_c.proofs.kept_maps.paxidore_kept_map_put.Goals as goal

pub returns-clause-put : goal.returns-clause-put
returns-clause-put c = λ xs keeps zero.
    let fits = to_z-of_z w32 c.done_code.result (record { sfits = c.done_code.type_inv }) in
    on_done c.put.result c.done_code.result _ c.done_code.ensures.fault (sym fits ∙ zero)
    (c.put.ensures.put sha256_map xs keeps)

pub returns-clause-done : goal.returns-clause-done
returns-clause-done c = λ xs keeps room.
    to_z-of_z w32 c.done_code.result (record { sfits = c.done_code.type_inv })
    ∙ is_done c.put.result c.done_code.result c.done_code.ensures.done (λ e. c.put.ensures.room.0 e room)
    (c.put.ensures.sound sha256_map xs keeps)
