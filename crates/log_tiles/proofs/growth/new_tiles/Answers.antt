use Rattle.std.proofs.Common.{◌<◌, ◌-◌, ◌*◌, ◌/◌, ap, ◌∙◌, arith}
use Rattle.std.specs.Prelude.{min}
use Rattle.log_tiles.specs.Tiles.{row_length}
use Rattle.log_tiles.proofs.Rows.{is-new, new-from, new-more, new-none}
use Rattle.log_tiles.proofs.growth.new_tiles.Goals as goal
use Rattle.log_tiles.proofs.growth.new_tiles.Goals.{then-old-count, else-old-count}

pub tiles-init : goal.tiles-init
tiles-init c = new-none c.args.old_size c.args.size c.args.level _ _ c.requires.grown
    (ap (λ n. n / 256) c.row_length-old.ensures) c.new-tiles.ensures.items

pub tiles-preserved : goal.tiles-preserved
tiles-preserved c =
    let old = c.row_length-old.ensures in
    let count = c.row_length-count.ensures in
    let level = c.args.level in
    let grown : row_length level c.args.old_size < row_length level c.args.size = elim c.if-old-count.branch [
      | then-old-count w ↦ omega (arith, w.if-old-count.true)
      | else-old-count w ↦ absurd (omega (arith, w.end-is))
    ] in
    let inside : c.tiles.index * 256 < row_length level c.args.size = elim c.if-old-count.branch [
      | then-old-count w ↦ omega (arith, w.end-is)
      | else-old-count w ↦ absurd (omega (arith, w.end-is))
    ] in
    new-more c.args.old_size c.args.size level c.tiles.tiles.items c.push.new.self.items _ (is-new c.args.old_size
    c.args.size level c.tiles.index c.min-width.result grown (omega (arith, c.tiles.auto.index)) inside
    (c.min-width.ensures ∙ ap (λ n. min 256 (n - c.tiles.index * 256)) count)) c.tiles.invariant
    c.in_ok-push.ensures.items

pub returns-clause-all : goal.returns-clause-all
returns-clause-all c = λ tile new.
    let own = new-from c.args.old_size c.args.size c.args.level tile c.requires.grown new in
    let old = c.row_length-old.ensures in
    let count = c.row_length-count.ensures in
    c.tiles.invariant.all tile new (elim c.if-old-count.branch [
      | then-old-count w ↦ omega (arith, own.inside, w.end-is)
      | else-old-count w ↦ absurd (omega (arith, own.grown, w.if-old-count.false))
    ])
