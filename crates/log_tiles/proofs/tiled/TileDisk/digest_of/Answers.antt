use Rattle.std.proofs.Common.{◌<◌, ◌/◌, ◌%◌, ◌^◌, ap, subst, ◌∙◌, arith}
use Rattle.log_tiles.specs.Audit.{tile_at, IsWholeTile}
use Rattle.log_tiles.proofs.TileRows.{no-larger, part-root}
use Rattle.log_tiles.proofs.Trees.{one-shifted}
use Rattle.log_tiles.proofs.tiled.TileDisk.digest_of.Goals as goal

pub returns-clause-digest : goal.returns-clause-digest
returns-clause-digest g c = λ obeys below.
    let size = c.args.self.now.size in
    let level = c.args.level in
    let fits : size < 2 ^ 57 = omega (arith, c.self.invariant, ap (λ disk. disk.size) c.self.view_is) in
    let one = one-shifted (level % 8) (omega arith) in
    c.halved_root.ensures ∙ part-root (g.T.Tiles.has c.args.self.now.tiles) size level c.args.place
    c.saturating_mul-first.result _ c.read_front.new.into one
    (no-larger level c.args.place size c.saturating_mul-first.result _ fits below one c.saturating_mul-first.ensures)
    below (c.in_ok-read_front.ensures.read obeys) (c.in_ok-read_front.ensures.whole obeys)

pub returns-clause-whole : goal.returns-clause-whole
returns-clause-whole g c = λ obeys below.
    let size = c.args.self.now.size in
    let level = c.args.level in
    let fits : size < 2 ^ 57 = omega (arith, c.self.invariant, ap (λ disk. disk.size) c.self.view_is) in
    let one = one-shifted (level % 8) (omega arith) in
    subst (λ n. IsWholeTile (g.T.Tiles.has c.args.self.now.tiles) (tile_at size (level / 8) (n / 256)))
    (no-larger level c.args.place size c.saturating_mul-first.result _ fits below one c.saturating_mul-first.ensures)
    (c.in_ok-read_front.ensures.whole obeys)
