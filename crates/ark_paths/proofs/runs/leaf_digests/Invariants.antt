use Rattle.ark_crh.specs.Ahead.{lent}
use Rattle.ark_paths.specs.Rows.{digests_of}
use Rattle.ark_paths.proofs.ListOutcomes.{IsSoFar}
use Rattle.ark_paths.proofs.runs.leaf_digests.Given as goal

abbrev pub invariant-rest : goal.invariant-rest
invariant-rest g l =
    IsSoFar (g.T.TreeHasher.hashes l.hasher).leaf (lent l.leaves) l.place (digests_of g.L.Numbered.numbers l.digests)
