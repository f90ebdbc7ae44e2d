use Rattle.std.proofs.Common.{◌≡◌, ◌+◌, ◌<◌, ◌^◌, [], length, get_or, ap, ◌∙◌, arith}
use Rattle.log_tiles.specs.Tiled.{tiled_digests}
use Rattle.log_tiles.proofs.TiledFiles.{all-long, length-digests, read-more}
use Rattle.log_tiles.proofs.tiled.TileDisk.read_list.Goals as goal

pub digests-preserved : goal.digests-preserved
digests-preserved g c = λ obeys own inside.
    let has = g.T.Tiles.has c.args.self.now.tiles in
    let size = c.args.self.now.size in
    let digests = tiled_digests has size in
    let fits : size < 2 ^ 57 = omega (arith, c.self.invariant, ap (λ disk. disk.size) c.self.view_is) in
    let below : c.args.position + c.digests.place < length digests = omega (
      arith,
      inside,
      c.digests-test.true,
      c.put_digest_bytes.auto.into,
      length-digests has size,
    ) in
    let here : c.saturating_add.result ≡ c.args.position + c.digests.place = omega (
      arith,
      c.saturating_add.ensures,
      below,
      length-digests has size,
    ) in
    read-more digests c.args.position c.digests.place c.digests.into c.put_digest_bytes.new.into c.in_ok-digest.digest
    (all-long has size own) below
    (c.digests.invariant obeys own (omega (arith, inside, c.put_digest_bytes.auto.into)))
    c.put_digest_bytes.ensures (c.in_ok-digest.ensures.digest obeys ∙ ap (λ n. get_or digests n []) here)
