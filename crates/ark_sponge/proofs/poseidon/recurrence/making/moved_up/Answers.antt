use Rattle.std.proofs.Common.{◌∷◌, map, ap, ap₂, ◌∙◌, arith}
use Rattle.std.proofs.lemmas.List.{map_push}
use Rattle.ark_sponge.proofs.Loops.{moved-more}
use Rattle.ark_sponge.proofs.poseidon.recurrence.making.moved_up.Goals as goal

pub loop-row-preserved : goal.loop-row-preserved
loop-row-preserved g c =
    let f = g.F.Valued.value in
    let row = ap (map f) c.in_ok-with_head.ensures
    ∙ ap₂ (λ n ts. n ∷ map f ts) c.zero.ensures c.deref.ensures.value in
    ap (map (λ row. map f row.items)) c.in_ok-push.ensures.items
    ∙ map_push (λ row. map f row.items) c.loop-row.moved.items c.in_ok-with_head.field-0
    ∙ moved-more f (λ v. v.items) c.args.rows.now c.loop-row.row-index c.row-item.result _ _ (omega arith) c.row-item.is
    row c.loop-row.invariant
