use Rattle.std.proofs.Common.{[], Ok, ap, sym, ◌∙◌, arith}
use Rattle.sha2.specs.Sha256.{sha256}
use Rattle.ark_trees.specs.Rfc6962.{node_of}
use Rattle.merkle_log.specs.Edge.{all_of}
use Rattle.merkle_log.specs.Multi.{multi_proof}
use Rattle.merkle_log.proofs.KeptRows.{fewer-hashed, fewer-first}
use Rattle.merkle_log.proofs.Making.{map-itself}
use Rattle.merkle_log.proofs.Positions.{length-row_of}
use Rattle.merkle_log.proofs.kept.Kept.write_multi_proof.Goals as goal

pub multi_proof_of-requires-clause-within : goal.multi_proof_of-requires-clause-within
multi_proof_of-requires-clause-within c = omega (arith, c.size.ensures.size, length-row_of c.args.self.now 0)

pub returns : goal.returns
returns c = λ leaves le keeps.
    let size = c.args.self.now.size in
    ap (λ l. all_of (multi_proof node_of (sha256 []) c.args.indexes.now l)) (sym (fewer-first keeps size le))
    ∙ (rw (c.size.ensures.size, c.in-Ok.is) at (c.multi_proof_of.ensures (fewer-hashed keeps size le)
    (sha256 []))) ∙ ap Ok (map-itself _)
