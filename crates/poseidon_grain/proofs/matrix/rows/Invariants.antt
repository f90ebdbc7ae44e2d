use Rattle.std.proofs.Common.{map}
use Rattle.poseidon_grain.proofs.Cauchy.{AreRows}
use Rattle.poseidon_grain.proofs.matrix.rows.Given as goal

abbrev pub invariant-loop-x : goal.invariant-loop-x
invariant-loop-x g l =
    let value = g.F.Valued.value in
    AreRows g.F.Field.MODULUS (map value l.xs) (map value l.ys) (map (λ row. map value row.items) l.rows.items)
    l.x-index
