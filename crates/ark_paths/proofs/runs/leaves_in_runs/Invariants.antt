use Rattle.std.proofs.Common.{◌-◌, length, map}
use Rattle.ark_paths.proofs.ListOutcomes.{IsSoFar}
use Rattle.ark_paths.proofs.runs.leaves_in_runs.Given as goal

abbrev pub invariant-runs : goal.invariant-runs
invariant-runs g l =
    IsSoFar (g.T.TreeHasher.hashes l.hasher).leaf l.leaves l.first (map g.L.Numbered.numbers l.digests.items)

abbrev pub decreases-runs : goal.decreases-runs
decreases-runs g l = length l.leaves - l.first
