use Rattle.std.proofs.Common.{◌≡◌, true, IfOk, Ok, subst}
use Rattle.merkle_map.specs.Bytes.{itself}
use Rattle.merkle_map.specs.KeyProof.{BindsBy, proof_seen}
use Rattle.merkle_map.specs.Parts.{value_seen}
use Rattle.merkle_map.specs.ProofBytes.{proof_of_bytes}
use Rattle.merkle_map.specs.Sha256.{sha256_map}
use Rattle.paxidore_c.specs.Maps.{key_proof_in}
use Rattle.paxidore_c.proofs.MapLemmas.{shown-read}
use Rattle.paxidore_c.proofs.map.is_shown_in_map.Goals as goal

pub returns-clause-bound : goal.returns-clause-bound
returns-clause-bound c =
    let value = value_seen (λ v. v.now) c.args.value in
    let proof = proof_seen itself c.in_ok-proof.proof in
    shown-read (key_proof_in c.args.proof.now) proof (BindsBy sha256_map c.args.root.now c.args.key.now value)
    c.verify.result
    (subst (λ h. proof_of_bytes h.nothing c.args.proof.now ≡ Ok proof) c.new-hasher.ensures.hashes
    c.in_ok-proof.ensures.answer)
    (subst (λ h. IfOk c.verify.result (λ accepted. accepted ≡ true
    → BindsBy h c.args.root.now c.args.key.now value proof)) c.new-hasher.ensures.hashes c.verify.ensures.bound)
