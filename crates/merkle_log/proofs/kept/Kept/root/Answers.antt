use Rattle.std.proofs.Common.{[], ap, sym, ◌∙◌, arith}
use Rattle.sha2.specs.Sha256.{sha256}
use Rattle.ark_trees.specs.Rfc6962.{node_of}
use Rattle.merkle_log.specs.Log.{merkle_tree_hash}
use Rattle.merkle_log.proofs.KeptRows.{fewer-hashed, fewer-first}
use Rattle.merkle_log.proofs.Positions.{length-row_of}
use Rattle.merkle_log.proofs.kept.Kept.root.Goals as goal

pub root_of-requires-clause-inside : goal.root_of-requires-clause-inside
root_of-requires-clause-inside c = omega (arith, c.size-2.ensures.size, length-row_of c.args.self.now 0)

pub returns : goal.returns
returns c = λ leaves le keeps.
    ap (merkle_tree_hash node_of (sha256 [])) (sym (fewer-first keeps c.args.self.now.size le))
    ∙ (rw (c.size-2.ensures.size, c.in-Ok.is) at (c.root_of.ensures.root (fewer-hashed keeps c.args.self.now.size le)
    (sha256 [])))
