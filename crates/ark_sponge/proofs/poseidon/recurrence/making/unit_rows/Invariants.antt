use Rattle.std.proofs.Common.{map}
use Rattle.ark_sponge.proofs.Products.{UnitsUpTo}
use Rattle.ark_sponge.proofs.poseidon.recurrence.making.unit_rows.Given as goal

abbrev pub invariant-loop-i : goal.invariant-loop-i
invariant-loop-i g l = UnitsUpTo g.F.Field.MODULUS l.n l.i (map (λ row. map g.F.Valued.value row.items) l.rows.items)
