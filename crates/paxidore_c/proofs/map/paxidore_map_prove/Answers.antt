use Rattle.std.proofs.Common.{IfOk, List, ℕ, sym, w32, ◌∙◌}
use Rattle.std.proofs.lemmas.Int.{to_z-of_z}
use Rattle.merkle_map.specs.Bytes.{tree_of_bytes}
use Rattle.paxidore_c.specs.Maps.{map_proof, IsProvedBy}
use Rattle.paxidore_c.proofs.MapLemmas.{given-said}
use Rattle.paxidore_calls.proofs.Written.{gives-itself, handed, seen}
use Rattle.paxidore_c.proofs.map.paxidore_map_prove.Goals as goal

pub returns-clause-accepted : goal.returns-clause-accepted
returns-clause-accepted c = λ zero.
    let P : List ℕ → Type 0 = λ bytes. IfOk (tree_of_bytes c.args.tree.now) (IsProvedBy c.args.key.now bytes) in
    let outcome = map_proof c.args.tree.now c.args.key.now in
    let hands = c.hand_over.ensures (seen (λ bytes. bytes.items) c.proof_for.result)
    (gives-itself (λ bytes. bytes.items) c.proof_for.result) in
    let fits = to_z-of_z w32 c.hand_over.result (record { sfits = c.hand_over.type_inv }) in
    (handed (λ bytes. bytes.items) (λ _. IfOk outcome P) c.proof_for.result _ _ _ _ c.hand_over.result
    (given-said (λ bytes. bytes.items) outcome P c.proof_for.result c.proof_for.ensures.given
    c.proof_for.ensures.accepted) hands (sym fits ∙ zero)).1
