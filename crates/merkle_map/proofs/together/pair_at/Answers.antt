use Rattle.merkle_map.proofs.Ahead.{couple-at}
use Rattle.merkle_map.proofs.together.pair_at.Goals as goal

pub returns : goal.returns
returns g c =
    let left = c.in_ok-left.ensures in
    let right = c.in_ok-right.ensures in
    let digest = c.in_ok-digest.ensures in
    let at = couple-at g.D.Numbered.numbers (g.H.MapViews.hashes c.args._hasher.now).pair c.args.couples.now
    c.args.digests.now c.args.place c.index-couples-place.result c.index-digests-place.result c.requires.hashed
    c.requires.inside c.index-couples-place.is c.index-digests-place.is in cc
