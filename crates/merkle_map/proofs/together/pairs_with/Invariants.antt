use Rattle.std.proofs.Common.{All}
use Rattle.merkle_map.specs.Together.{IsHashedPair}
use Rattle.merkle_map.proofs.together.pairs_with.Given as goal

abbrev pub invariant-digests : goal.invariant-digests
invariant-digests g l = All (IsHashedPair g.D.Numbered.numbers (g.H.MapViews.hashes l.hasher)) l.made.items
