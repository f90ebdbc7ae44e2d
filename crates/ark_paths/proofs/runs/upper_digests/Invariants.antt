use Rattle.ark_crh.specs.Ahead.{lent_couples, of_couple}
use Rattle.ark_paths.specs.Rows.{digests_of}
use Rattle.ark_paths.proofs.ListOutcomes.{IsSoFar}
use Rattle.ark_paths.proofs.runs.upper_digests.Given as goal

abbrev pub invariant-rest : goal.invariant-rest
invariant-rest g l =
    IsSoFar (of_couple (g.T.TreeHasher.hashes l.hasher).pair.upper) (lent_couples g.D.Numbered.numbers l.couples)
    l.place
    (digests_of g.D.Numbered.numbers l.digests)
