use Rattle.std.proofs.Common.{subst}
use Rattle.ark_base.specs.Outcome.{AnswersBy}
use Rattle.merkle_map.specs.Bytes.{itself, tree_of_bytes}
use Rattle.merkle_map.specs.KeyProof.{proof_seen, IsKeyProofAccepted}
use Rattle.merkle_map.specs.ProofBytes.{proof_bytes}
use Rattle.paxidore_c.proofs.MapLemmas.{proved-bytes}
use Rattle.paxidore_c.proofs.map.key_proof_of.Goals as goal

pub returns-clause-accepted : goal.returns-clause-accepted
returns-clause-accepted c =
    let proof = proof_seen itself c.in_ok-proof.proof in
    proved-bytes (λ bytes. bytes.items) c.args.key.now (tree_of_bytes c.args.tree.now) c.in_ok-tree.tree proof
    c.to_bytes.result c.in_ok-tree.ensures.answer
    (subst (λ h. IsKeyProofAccepted h c.args.key.now c.in_ok-tree.tree proof) c.new-hasher.ensures.hashes
    c.in_ok-proof.ensures.accepted)
    (subst (λ h. AnswersBy (λ bytes. bytes.items) (proof_bytes h.nothing proof) c.to_bytes.result)
    c.new-hasher.ensures.hashes c.to_bytes.ensures.written) c.to_bytes.ensures.sized
