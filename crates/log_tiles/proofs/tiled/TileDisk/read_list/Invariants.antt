use Rattle.std.proofs.Common.{◌≡◌, ◌+◌, ◌*◌, ◌≤◌, length, take, drop}
use Rattle.std.specs.List.{flat_map}
use Rattle.ark_base.specs.Digits.{itself}
use Rattle.merkle_log.specs.Stored.{stored_count}
use Rattle.log_tiles.specs.Tiled.{tiled_digests, HaveDigests}
use Rattle.log_tiles.proofs.tiled.TileDisk.read_list.Given as goal

abbrev pub invariant-digests : goal.invariant-digests
invariant-digests g l =
    let has = g.T.Tiles.has l.self.tiles in
    g.T.Tiles.Obeys l.self.tiles → HaveDigests has l.self.size
    → 32 * l.position + length l.into ≤ 32 * stored_count l.self.size → take (32 * l.place) l.into
    ≡ take (32 * l.place) (drop (32 * l.position) (flat_map itself (tiled_digests has l.self.size)))
