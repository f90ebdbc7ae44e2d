use Rattle.std.proofs.Common.{◌-◌, length, map}
use Rattle.ark_paths.proofs.CoupleLemmas.{ArePaired}
use Rattle.ark_merkle.proofs.tree.build.pair_leaves.Given as goal

abbrev pub invariant-runs : goal.invariant-runs
invariant-runs g l =
    ArePaired (g.T.TreeHasher.hashes l.hasher).pair.bottom g.L.Numbered.numbers l.digests l.couple
    (map g.D.Numbered.numbers l.row.items)

abbrev pub decreases-runs : goal.decreases-runs
decreases-runs g l = length l.digests - l.couple
