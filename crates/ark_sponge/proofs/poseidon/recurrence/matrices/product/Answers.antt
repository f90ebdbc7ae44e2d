use Rattle.std.proofs.Common.{◌<◌, length, map, ap, ◌∙◌, arith}
use Rattle.std.proofs.lemmas.List.{length-map, map_push}
use Rattle.ark_sponge.proofs.Loops.{row_at}
use Rattle.ark_sponge.proofs.Products.{rows_up_to-none, rows_up_to-more, rows_up_to-all}
use Rattle.ark_sponge.proofs.poseidon.recurrence.matrices.product.Goals as goal

pub loop-row-init : goal.loop-row-init
loop-row-init g c = rw c.new-rows.ensures.items (rows_up_to-none g.F.Field.MODULUS _ _)

pub loop-row-preserved : goal.loop-row-preserved
loop-row-preserved g c =
    let f = g.F.Valued.value in
    let first = c.args.first.now in
    let i = c.loop-row.row-index in
    let in_first : i < length first = omega arith in
    let pushed = ap (map (λ row. map f row.items)) c.in_ok-push.ensures.items ∙ map_push (λ row. map f row.items)
    c.loop-row.rows.items c.in_ok-combination.field-0 in
    rw pushed (rows_up_to-more g.F.Field.MODULUS _ _ _ i (map f c.deref.result.now) _ (rw length-map in_first)
    (ap (map f) c.deref.ensures.value ∙ row_at f (λ v. v.items) first i c.row-item.result in_first c.row-item.is)
    c.loop-row.invariant c.in_ok-combination.ensures.value)

pub returns : goal.returns
returns g c =
    rows_up_to-all g.F.Field.MODULUS _ _ _ c.loop-row.row-index (rw length-map (omega arith)) c.loop-row.invariant
