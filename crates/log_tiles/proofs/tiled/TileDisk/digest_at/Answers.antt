use Rattle.std.proofs.Common.{◌-◌, ◌/◌, ◌<◌, ◌^◌, refl, ap, arith}
use Rattle.log_tiles.specs.Tiled.{tiled_row}
use Rattle.log_tiles.proofs.Completed.{level-low, place-at, place-inside}
use Rattle.log_tiles.proofs.tiled.TileDisk.digest_at.Goals as goal

pub overflow_shr-leaf : goal.overflow_shr-leaf
overflow_shr-leaf g c =
    let leaf = c.completing_leaf-leaf in
    let level = c.args.position - c.stored_count-2.result in
    level-low c.size-size.result c.args.position leaf.result level (leaf.result / 2 ^ level) leaf.ensures.inside
    leaf.ensures.from leaf.ensures.below (ap (λ n. c.args.position - n) c.stored_count-2.ensures) refl
    c.size-size.ensures.fits

pub digest_of-requires : goal.digest_of-requires
digest_of-requires g c = overflow_shr-leaf g c

pub returns-in-Ok-clause-digest : goal.returns-in-Ok-clause-digest
returns-in-Ok-clause-digest g c = λ obeys.
    let leaf = c.completing_leaf-leaf in
    let level = c.args.position - c.stored_count-2.result in
    let size = c.args.self.now.size in
    let inside : leaf.result < size = omega (arith, leaf.ensures.inside, c.size-size.ensures.size) in
    let is = ap (λ n. c.args.position - n) c.stored_count-2.ensures in
    place-at size c.args.position leaf.result level (leaf.result / 2 ^ level) inside leaf.ensures.from
    leaf.ensures.below is refl (tiled_row (g.T.Tiles.has c.args.self.now.tiles) size) c.in-Ok.digest
    (c.in-Ok.ensures.digest obeys (place-inside size c.args.position leaf.result level (leaf.result / 2 ^ level) inside
    leaf.ensures.from leaf.ensures.below is refl))
