use Rattle.std.proofs.lemmas.List.Elements.{All-append}
use Rattle.merkle_map.specs.Together.{IsHashedPair}
use Rattle.merkle_map.proofs.together.hash_work.Goals as goal

pub heights-preserved : goal.heights-preserved
heights-preserved g c =
    rw c.in_ok-append.ensures.items
    (All-append (IsHashedPair g.D.Numbered.numbers (g.H.MapViews.hashes c.args.hasher.now)) c.heights.forks.items
    c.in_ok-more.more.items c.heights.invariant c.in_ok-more.ensures)
