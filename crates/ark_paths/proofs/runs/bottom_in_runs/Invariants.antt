use Rattle.std.proofs.Common.{◌-◌, length}
use Rattle.ark_crh.specs.Ahead.{lent_couples, of_couple}
use Rattle.ark_paths.specs.Rows.{digests_of}
use Rattle.ark_paths.proofs.ListOutcomes.{IsSoFar}
use Rattle.ark_paths.proofs.runs.bottom_in_runs.Given as goal

abbrev pub invariant-runs : goal.invariant-runs
invariant-runs g l =
    IsSoFar (of_couple (g.T.TreeHasher.hashes l.hasher).pair.bottom) (lent_couples g.L.Numbered.numbers l.couples)
    l.first (digests_of g.D.Numbered.numbers l.digests)

abbrev pub decreases-runs : goal.decreases-runs
decreases-runs g l = length l.couples - l.first
