use Rattle.std.proofs.Common.{◌∙◌, sym, arith}
use Rattle.log_tiles.proofs.TileRows.{row_length-tiles}
use Rattle.log_tiles.proofs.tiled.TileDisk.is_below_its_root.Goals as goal

pub returns-clause-root : goal.returns-clause-root
returns-clause-root g c = λ obeys below.
    let root = c.in_ok-root.ensures.root obeys below in
    let above = c.in_ok-digest_in.ensures obeys (omega (arith, row_length-tiles c.args.level c.args.self.now.size)) in
    (λ is. sym above ∙ c.are_same.ensures.0 is ∙ root, λ same. c.are_same.ensures.1 (above ∙ same ∙ sym root))
