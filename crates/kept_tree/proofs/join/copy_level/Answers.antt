use Rattle.std.proofs.Common.{◌+◌, ◌-◌, ◌*◌, ◌/◌, length, refl, arith}
use Rattle.kept_tree.proofs.JoinedPlaces.{level-more, run-long, run-read}
use Rattle.kept_tree.proofs.JoinedTrees.{joined-sizes, run-fits}
use Rattle.kept_tree.proofs.join.copy_level.Goals as goal

pub copy_to_place-requires : goal.copy_to_place-requires
copy_to_place-requires c =
    let from = c.parts.n * (length c.args.parts.now / c.args.count) + c.args.width - 1 in
    let sizes = joined-sizes (length c.args.parts.now) c.args.count (length c.args.tree.now) c.requires.joined in
    let fit = run-fits sizes c.args.width c.parts.n c.requires.some c.requires.inside c.parts-test.true in
    omega (arith, run-long c.args.parts.now from c.args.width fit.1, fit.0, c.parts.invariant.long)

pub parts-preserved : goal.parts-preserved
parts-preserved c =
    let from = c.parts.n * (length c.args.parts.now / c.args.count) + c.args.width - 1 in
    let sizes = joined-sizes (length c.args.parts.now) c.args.count (length c.args.tree.now) c.requires.joined in
    let fit = run-fits sizes c.args.width c.parts.n c.requires.some c.requires.inside c.parts-test.true in
    let long = run-long c.args.parts.now from c.args.width fit.1 in
    rw c.copy_to_place.ensures (level-more c.parts.n c.parts.tree _ ((c.args.count + c.parts.n) * c.args.width - 1)
    c.parts.invariant sizes.some c.requires.some refl long (omega (arith, long, fit.0, c.parts.invariant.long))
    (run-read c.args.parts.now from c.args.width))
