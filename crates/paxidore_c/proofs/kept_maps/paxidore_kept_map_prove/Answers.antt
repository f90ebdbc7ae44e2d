use Rattle.std.proofs.Common.{subst, sym, w32, ◌∙◌}
use Rattle.std.proofs.lemmas.Int.{to_z-of_z}
use Rattle.kept_map.proofs.Nexts.{ok-on}
use Rattle.paxidore_c.specs.KeptMaps.{HandsSome, IsOwnProof, IsShownBy}
use Rattle.paxidore_c.proofs.KeptMapCalls.{front-said, some-handed}
use Rattle.paxidore_c.proofs.kept_maps.paxidore_kept_map_prove.Goals as goal

pub returns-clause-accepted : goal.returns-clause-accepted
returns-clause-accepted c = λ xs keeps zero.
    let fits = to_z-of_z w32 c.hand_proof.result (record { sfits = c.hand_proof.type_inv }) in
    front-said (λ bytes. bytes.items) (IsShownBy c.args.key.now xs)
    c.proof_bytes_of-made.result c.args.proof.now c.hand_proof.new.proof c.args.proof_len.now c.hand_proof.new.proof_len
    c.hand_proof.result (ok-on c.proof_bytes_of-made.result _ _ (λ bytes is. is xs keeps)
    c.proof_bytes_of-made.ensures.shown)
    c.hand_proof.ensures.handed c.hand_proof.ensures.fault (sym fits ∙ zero)

pub returns-clause-done : goal.returns-clause-done
returns-clause-done c = λ xs keeps.
    let fits = to_z-of_z w32 c.hand_proof.result (record { sfits = c.hand_proof.type_inv }) in
    subst (HandsSome (IsOwnProof c.args.key.now xs) c.args.proof.now c.hand_proof.new.proof c.args.proof_len.now
    c.hand_proof.new.proof_len) (sym fits)
    (some-handed (λ bytes. bytes.items) (IsOwnProof c.args.key.now xs)
    c.proof_bytes_of-made.result c.args.proof.now c.hand_proof.new.proof c.args.proof_len.now c.hand_proof.new.proof_len
    c.hand_proof.result (ok-on c.proof_bytes_of-made.result _ _ (λ bytes is. is xs keeps)
    c.proof_bytes_of-made.ensures.own)
    c.hand_proof.ensures.handed c.hand_proof.ensures.fault (c.proof_bytes_of-made.ensures.found xs keeps))
