use Rattle.std.proofs.Common.{◌≡◌, Ok, ap, subst, ◌∙◌}
use Rattle.ark_base.specs.Outcome.{◌>>=◌}
use Rattle.merkle_map.specs.Sha256.{sha256_map}
use Rattle.merkle_map.specs.Bytes.{itself}
use Rattle.merkle_map.specs.KeyProof.{proof_seen}
use Rattle.merkle_map.specs.ProofBytes.{proof_bytes}
use Rattle.paxidore_c.proofs.MapLemmas.{shown-bytes}
use Rattle.paxidore_c.proofs.kept_maps.proof_bytes_of.Goals as goal

pub returns-in-Ok-to_bytes-clause-shown : goal.returns-in-Ok-to_bytes-clause-shown
returns-in-Ok-to_bytes-clause-shown c = λ xs keeps.
    let proof = proof_seen itself c.in-Ok.proof in
    let bytes = c.in-Ok-to_bytes.bytes.items in
    let written = subst (λ h. proof_bytes h.nothing proof ≡ Ok bytes) c.new.ensures.hashes
    c.in-Ok-to_bytes.ensures.written in
    shown-bytes c.args.key.now xs proof bytes (c.in-Ok.ensures.accepted xs keeps) written c.in-Ok-to_bytes.ensures.sized

pub returns-in-Ok-to_bytes-clause-own : goal.returns-in-Ok-to_bytes-clause-own
returns-in-Ok-to_bytes-clause-own c = λ xs keeps.
    let own = c.in-Ok.ensures.answer xs keeps in
    let proof = proof_seen itself c.in-Ok.proof in
    let bytes = c.in-Ok-to_bytes.bytes.items in
    let written = subst (λ h. proof_bytes h.nothing proof ≡ Ok bytes) c.new.ensures.hashes
    c.in-Ok-to_bytes.ensures.written in
    record {
      tree = own.0;
      is = own.1;
      written = ap (λ o. o >>= proof_bytes sha256_map.nothing) own.2 ∙ written;
    }
