use Rattle.std.proofs.Common.{map}
use Rattle.ark_sponge.proofs.Products.{RowsUpTo}
use Rattle.ark_sponge.proofs.poseidon.recurrence.matrices.product.Given as goal

abbrev pub invariant-loop-row : goal.invariant-loop-row
invariant-loop-row g l =
    let f = g.F.Valued.value in
    RowsUpTo g.F.Field.MODULUS (map (λ row. map f row.items) l.first) (map (λ row. map f row.items) l.second)
    l.row-index (map (λ row. map f row.items) l.rows.items)
