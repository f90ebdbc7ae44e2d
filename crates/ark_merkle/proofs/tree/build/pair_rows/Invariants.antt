use Rattle.std.proofs.Common.{◌-◌, length}
use Rattle.ark_merkle.proofs.PileRuns.{IsPile}
use Rattle.ark_merkle.proofs.tree.build.pair_rows.Given as goal

abbrev pub invariant-runs : goal.invariant-runs
invariant-runs g l =
    IsPile (g.T.TreeHasher.hashes l.hasher).pair.upper g.D.Numbered.numbers l.fn.digests l.couple l.digests

abbrev pub decreases-runs : goal.decreases-runs
decreases-runs g l = length l.fn.digests.items - l.couple
