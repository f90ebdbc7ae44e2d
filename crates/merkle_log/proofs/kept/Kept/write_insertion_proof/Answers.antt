use Rattle.std.proofs.Common.{List, take, arith, subst}
use Rattle.ark_paths.specs.Pair.{Digest}
use Rattle.merkle_log.specs.Frontier.{IsFrontier}
use Rattle.merkle_log.specs.Stored.{row_at}
use Rattle.merkle_log.proofs.KeptRows.{fewer-first-by, fewer-hashed-by}
use Rattle.merkle_log.proofs.Making.{map-itself}
use Rattle.merkle_log.proofs.Positions.{length-row_of}
use Rattle.merkle_log.proofs.kept.Kept.write_insertion_proof.Goals as goal

pub insertion_proof_of-requires-clause-within : goal.insertion_proof_of-requires-clause-within
insertion_proof_of-requires-clause-within c = omega (arith, c.size.ensures.size, length-row_of c.args.self.now 0)

pub returns : goal.returns
returns c = λ hash leaves le keeps.
    let size = c.args.self.now.size in
    let P : List Digest → List Digest → Type 0 = λ list proof. IsFrontier hash list size proof in
    subst (λ list. P list c.insertion_proof_of.new.proof) (fewer-first-by keeps size le)
    (subst (P (take size (row_at c.args.self.now 0))) (map-itself _)
    (rw (c.size.ensures.size) at (c.in-Ok.ensures.frontier hash (fewer-hashed-by keeps size le))))
