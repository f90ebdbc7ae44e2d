use Rattle.std.proofs.Common.{◌≡◌}
use Rattle.merkle_log.specs.Append.{counted_after}
use Rattle.merkle_log.proofs.Completing.{Completing}
use Rattle.merkle_log.proofs.stored.complete.Given as goal

abbrev pub invariant-odd : goal.invariant-odd
invariant-odd g l =
    let hash = (g.W.PairHasher.pair l.fn.hasher).upper in
    let numbers = g.D.Numbered.numbers in
    record {
      same : g.W.PairHasher.pair l.hasher ≡ g.W.PairHasher.pair l.fn.hasher;
      counted : g.W.PairHasher.counted l.hasher ≡ counted_after (g.W.PairHasher.counted l.fn.hasher) l.level;
      at : Completing numbers hash l.size l.fn.digests.items (numbers l.fn.digest) l.digests.items l.level l.left;
    }

abbrev pub decreases-odd : goal.decreases-odd
decreases-odd g l = l.left
