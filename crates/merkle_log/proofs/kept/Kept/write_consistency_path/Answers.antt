use Rattle.std.proofs.Common.{[], Ok, ap, sym, ◌∙◌, arith}
use Rattle.sha2.specs.Sha256.{sha256}
use Rattle.ark_trees.specs.Rfc6962.{node_of}
use Rattle.merkle_log.specs.Edge.{all_of}
use Rattle.merkle_log.specs.Log.{consistency_path}
use Rattle.merkle_log.proofs.KeptRows.{fewer-hashed, fewer-first}
use Rattle.merkle_log.proofs.Making.{map-itself}
use Rattle.merkle_log.proofs.Positions.{length-row_of}
use Rattle.merkle_log.proofs.kept.Kept.write_consistency_path.Goals as goal

pub consistency_path_of-requires-clause-within : goal.consistency_path_of-requires-clause-within
consistency_path_of-requires-clause-within c =
    omega (arith, c.size-2.ensures.size, length-row_of c.args.self.now 0)

pub returns : goal.returns
returns c = λ leaves le keeps.
    let size = c.args.self.now.size in
    ap (λ l. all_of (consistency_path node_of (sha256 []) c.args.old_size l)) (sym (fewer-first keeps size le))
    ∙ (rw (c.size-2.ensures.size, c.in-Ok.is) at (c.consistency_path_of.ensures.path (fewer-hashed keeps size le)
    (sha256 []))) ∙ ap Ok (map-itself _)
