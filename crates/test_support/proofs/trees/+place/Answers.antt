use Rattle.std.proofs.Common.{refl}
use Rattle.ark_paths.specs.Pair.{pair_of}
use Rattle.test_support.proofs.PlainPlaces.{place-halves}
use Rattle.test_support.proofs.trees.+place.Goals as goal

pub returns : goal.returns
returns g t c =
    let two = g.P.TwoToOneHash.TwoToOneCRHScheme in
    let h = pair_of g.P.LeafInnerDigestConverter.DigestConverter.conversion two.evaluated two.compressed
    c.args.pair_parameters.now in
    let halves = place-halves g.P.LeafDigest.Numbered.numbers h c.args.m c.args.digests.now c.split_at.result.0.now
    c.split_at.result.1.now c.if-m-eq0.false c.requires c.split_at.ensures.front c.split_at.ensures.back
    c.in_ok-left.ensures c.in_ok-right.ensures in
    rw halves (c.place_of_halves.ensures h refl)
