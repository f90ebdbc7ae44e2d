use Rattle.std.proofs.Common.{◌∷◌, [], map, ap, ◌∙◌, arith}
use Rattle.std.proofs.lemmas.List.{map-append, length-map}
use Rattle.poseidon_grain.proofs.Cauchy.{one_row, all_rows, value_at}
use Rattle.poseidon_grain.proofs.matrix.rows.Goals as goal

pub loop-x-preserved : goal.loop-x-preserved
loop-x-preserved g c =
    let value = g.F.Valued.value in
    let p = g.F.Field.MODULUS in
    let l = c.loop-x in
    let ys = map value c.args.ys.now in
    one_row p (map value c.args.xs.now) ys
    (map (λ row. map value row.items) l.rows.items) _ (map value c.in-Some.row.items) l.x-index
    (value c.x-item.result) l.invariant
    (ap (map (λ row. map value row.items)) c.in_ok-push-in-Some.ensures.items
    ∙ map-append (λ row. map value row.items) l.rows.items (c.in-Some.row ∷ []))
    (value_at value c.args.xs.now l.x-index c.x-item.result c.loop-x-test.true c.x-item.is)
    (rw c.in-Some.is at c.in_ok-row.ensures.row)

pub returns-clause-matrix : goal.returns-clause-matrix
returns-clause-matrix g c =
    let value = g.F.Valued.value in
    all_rows g.F.Field.MODULUS (map value c.args.xs.now) (map value c.args.ys.now)
    (map (λ row. map value row.items) c.loop-x.rows.items) c.loop-x.x-index
    (omega (arith, c.loop-x-test.false, c.loop-x.auto.x-index-end, length-map c.args.xs.now value)) c.loop-x.invariant
