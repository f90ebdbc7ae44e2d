use Rattle.std.proofs.Common.{All}
use Rattle.merkle_map.specs.Together.{IsHashedPair}
use Rattle.merkle_map.proofs.together.hash_work.Given as goal

abbrev pub invariant-heights : goal.invariant-heights
invariant-heights g l = All (IsHashedPair g.D.Numbered.numbers (g.H.MapViews.hashes l.hasher)) l.forks.items
