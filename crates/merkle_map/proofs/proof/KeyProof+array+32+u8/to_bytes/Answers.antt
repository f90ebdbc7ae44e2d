use Rattle.std.proofs.Common.{◌≤◌, ◌∙◌, sym, length, subst, arith}
use Rattle.std.proofs.lemmas.List.{length-map, map-id}
use Rattle.merkle_map.specs.ProofBytes.{AreOf32}
use Rattle.merkle_map.proofs.proof.KeyProof+array+32+u8.to_bytes.Goals as goal

pub returns-clause-sized : goal.returns-clause-sized
returns-clause-sized g c =
    let items = c.args.self.now.siblings.items in
    let long = length-map items (λ d. d) in
    let few : length items ≤ 256 = omega (arith, c.len.ensures, c.args.self.now.siblings.ok.0) in
    record {
      end = c.in_ok-push_end.ensures.sized;
      siblings = subst AreOf32 (c.deref.ensures.value ∙ sym (map-id items)) c.in_ok-push_siblings.ensures.sized;
      count = omega (arith, long, few);
    }
