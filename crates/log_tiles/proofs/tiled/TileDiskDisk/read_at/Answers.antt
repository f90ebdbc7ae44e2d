use Rattle.std.proofs.Common.{◌≡◌, ◌+◌, ◌-◌, ◌*◌, ◌/◌, ◌<◌, ◌≤◌, ◌^◌, ◌++◌, length, take, ap, sym, subst, ◌∙◌, arith}
use Rattle.std.specs.Prelude.{OnOk}
use Rattle.merkle_log.specs.Stored.{stored_count}
use Rattle.log_file.specs.LogFile.{slot, title}
use Rattle.log_tiles.proofs.TiledFiles.{behind-is, front-is, length-tiled}
use Rattle.log_tiles.proofs.tiled.TileDiskDisk.read_at.Goals as goal

pub returns-then-into-eq-START : goal.returns-then-into-eq-START
returns-then-into-eq-START g c = λ obeys inside.
    let disk = c.args.self.now in
    let small : disk.size < 2 ^ 64 = omega (arith, c.self.invariant, ap (λ disk. disk.size) c.self.view_is) in
    c.copy_from_slice.ensures.after ∙ c.head_bytes.ensures
    ∙ ap (λ disk. title ++ (slot disk.size disk.root ++ slot disk.size disk.root)) c.self.view_is
    ∙ sym (front-is (g.T.Tiles.has disk.tiles) disk.size
    disk.root small c.args.at (length c.args.into.now) (omega (arith, c.if-at-eq0.true))
    (omega (arith, c.if-into-eq-START.true)))

pub returns : goal.returns
returns g c = λ obeys inside.
    let disk = c.args.self.now in
    let has = g.T.Tiles.has disk.tiles in
    let small : disk.size < 2 ^ 64 = omega (arith, c.self.invariant, ap (λ disk. disk.size) c.self.view_is) in
    let total : c.args.at + length c.args.into.now ≤ 96 + 32 * stored_count disk.size =
    subst (λ n. c.args.at + length c.args.into.now ≤ n) (length-tiled has disk.size obeys.1 disk.root small) inside in
    let from = 32 * ((c.args.at - 96) / 32) in
    let here : 96 + from ≡ c.args.at = omega (arith, c.if-at-lt-START.false, c.if-at-ne0.false) in
    subst (λ l. OnOk c.read_list.result (c.read_list.new.into ≡ take (length c.args.into.now) l))
    (behind-is has disk.size disk.root small c.args.at from here)
    (c.read_list.ensures obeys.0 obeys.1 (omega (arith, total, here)))
