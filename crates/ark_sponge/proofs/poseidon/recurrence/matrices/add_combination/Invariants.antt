use Rattle.std.proofs.Common.{map}
use Rattle.ark_sponge.proofs.Products.{SumsUpTo}
use Rattle.ark_sponge.proofs.poseidon.recurrence.matrices.add_combination.Given as goal

abbrev pub invariant-loop-i : goal.invariant-loop-i
invariant-loop-i g l =
    let f = g.F.Valued.value in
    SumsUpTo g.F.Field.MODULUS (map f l.factors) (map (λ row. map f row.items) l.rows) l.i
    (map f l.initial.sum) (map f l.sum)
