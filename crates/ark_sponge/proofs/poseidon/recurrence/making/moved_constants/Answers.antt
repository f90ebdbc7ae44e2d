use Rattle.std.proofs.Common.{◌+◌, ◌<◌, length, map, take, drop, ap, sym, subst, ◌∙◌, arith}
use Rattle.std.proofs.lemmas.List.{length-map, map_push, take_at}
use Rattle.ark_sponge.specs.Recurrence.{AreMoved}
use Rattle.ark_sponge.proofs.Rows.{row_read}
use Rattle.ark_sponge.proofs.Zeros.{all_zero}
use Rattle.ark_sponge.proofs.Recurrences.{are_moved-none, are_moved-more, are_moved-all}
use Rattle.ark_sponge.proofs.poseidon.recurrence.making.moved_constants.Goals as goal

pub loop-row-init : goal.loop-row-init
loop-row-init g c =
    let f = g.F.Valued.value in
    let items = c.in_ok-offset.ensures.items_if_clones_equal (λ y k. sym (g.met.F.Field.clones _ _ k)) in
    rw c.new-constants.ensures.items (are_moved-none g.F.Field.MODULUS (length c.args.mds.now)
    (map (λ row. map f row.items) c.args.mds.now) (map (λ row. map f row.items) c.args.rows.now) _
    (ap (map f) items ∙ all_zero f (length c.args.mds.now) c.zero.result c.zero.ensures))

pub loop-row-preserved : goal.loop-row-preserved
loop-row-preserved g c =
    let f = g.F.Valued.value in
    let p = g.F.Field.MODULUS in
    let mds = map (λ row. map f row.items) c.args.mds.now in
    let rows = map (λ row. map f row.items) c.args.rows.now in
    let i = c.loop-row.row-index in
    let row = c.deref.result.now in
    let next = c.move_row-constant.new.offset in
    let constants = map f c.loop-row.constants.items in
    let constant = c.move_row-constant.result in
    let in_rows : i < length c.args.rows.now = omega arith in
    let one = rw (c.deref_mut.ensures.value) at c.move_row-constant.ensures.moved in
    let more = are_moved-more p mds rows (omega (arith, g.met.F.Field.laws.below c.zero.result))
    (rw length-map c.requires.some) i constants (map f c.loop-row.offset.items) (map f row) (f constant) (map f next)
    (rw length-map in_rows)
    (row_read f p (λ v. v.items) c.args.rows.now i c.row-item.result row in_rows c.row-item.is c.deref.ensures.value)
    c.loop-row.invariant one in
    let pushed = ap (map f) c.in_ok-push.ensures.items ∙ map_push f c.loop-row.constants.items constant in
    let back = ap (map f) (take_at next (drop (length next) c.loop-row.offset.items) c.loop-row.offset.len
    (omega (arith, c.move_row-constant.ensures.offset, c.deref_mut.ensures.len))) in
    subst (λ o. AreMoved p mds (take (i + 1) rows) (map f c.push.new.self.items) o) (sym back)
    (subst (λ ks. AreMoved p mds (take (i + 1) rows) ks (map f next)) (sym pushed) more)

pub returns-clause-moved : goal.returns-clause-moved
returns-clause-moved g c =
    let f = g.F.Valued.value in
    are_moved-all g.F.Field.MODULUS (map (λ row. map f row.items) c.args.mds.now)
    (map (λ row. map f row.items) c.args.rows.now) c.loop-row.row-index (map f c.loop-row.constants.items)
    (map f c.loop-row.offset.items) (rw length-map (omega arith))
    c.loop-row.invariant
