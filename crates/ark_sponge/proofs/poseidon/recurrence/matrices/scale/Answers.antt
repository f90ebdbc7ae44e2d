use Rattle.std.proofs.Common.{◌*◌, ◌%◌, arith}
use Rattle.ark_sponge.proofs.Loops.{image-more, image-all}
use Rattle.ark_sponge.proofs.poseidon.recurrence.matrices.scale.Goals as goal

pub loop-i-preserved : goal.loop-i-preserved
loop-i-preserved g c =
    let f = g.F.Valued.value in
    image-more f (λ x. (x * f c.args.factor) % g.F.Field.MODULUS) c.args.row.now c.loop-i.out c.loop-i.i _ _
    (omega arith) (omega arith) c.index-row-i.is c.mul.ensures c.loop-i.invariant

pub returns-clause-value : goal.returns-clause-value
returns-clause-value g c =
    let f = g.F.Valued.value in
    image-all f (λ x. (x * f c.args.factor) % g.F.Field.MODULUS) c.args.row.now c.loop-i.out c.loop-i.i
    (omega arith) (omega arith) c.loop-i.invariant
