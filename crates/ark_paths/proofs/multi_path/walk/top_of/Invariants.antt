use Rattle.std.proofs.Common.{◌≡◌}
use Rattle.ark_paths.specs.PathBytes.{way_of}
use Rattle.ark_paths.specs.Table.{walk_of}
use Rattle.ark_paths.proofs.TableWalks.{Climbed}
use Rattle.ark_paths.proofs.multi_path.walk.top_of.Given as goal

-- what the path from the leaf up to this level gives is the digest of this number
abbrev pub invariant-loop-below : goal.invariant-loop-below
invariant-loop-below g l =
    let way = way_of g.L.Numbered.numbers (λ x. g.D.Numbered.numbers x.now) (l.sibling, (l.above, l.index)) in
    record {
      climbed : Climbed g.L.Numbered.numbers g.D.Numbered.numbers (g.T.PairHasher.pair l.fn.hasher) way
          (g.L.Numbered.numbers l.fn.digest) (walk_of l.fn.table (g.T.PairHasher.counted l.fn.hasher))
          (walk_of l.table (g.T.PairHasher.counted l.hasher)) l.below l.own;
      same : g.T.PairHasher.pair l.hasher ≡ g.T.PairHasher.pair l.fn.hasher;
    }
