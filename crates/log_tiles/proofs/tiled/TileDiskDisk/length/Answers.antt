use Rattle.std.proofs.Common.{◌≡◌, ◌+◌, ◌*◌, ◌<◌, ◌^◌, ap, sym, ◌∙◌, arith}
use Rattle.merkle_log.specs.Stored.{stored_count}
use Rattle.log_tiles.proofs.TiledFiles.{length-tiled}
use Rattle.log_tiles.proofs.tiled.TileDiskDisk.length.Goals as goal

pub overflow_add-result : goal.overflow_add-result
overflow_add-result g c = omega (arith, c.stored_count.ensures)

pub returns : goal.returns
returns g c = λ obeys.
    let disk = c.args.self.now in
    let own = ap (λ disk. disk.size) c.self.view_is in
    let small : disk.size < 2 ^ 64 = omega (arith, c.self.invariant, own) in
    let count : c.stored_count.result ≡ stored_count disk.size = omega (
      arith,
      c.stored_count.ensures,
      ap stored_count
          own,
    ) in
    ap (λ n. 96 + 32 * n) count ∙ sym (length-tiled (g.T.Tiles.has disk.tiles) disk.size obeys.1 disk.root small)
