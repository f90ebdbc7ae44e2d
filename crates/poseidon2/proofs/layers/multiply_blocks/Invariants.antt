use Rattle.std.proofs.Common.{◌≡◌, map}
use Rattle.poseidon2.specs.Blocks.{front_blocks, row_times}
use Rattle.poseidon2.proofs.layers.multiply_blocks.Given as goal

abbrev pub invariant-loop-b : goal.invariant-loop-b
invariant-loop-b g l =
    let f = g.F.Valued.value in
    map f l.state ≡ front_blocks (row_times g.F.Field.MODULUS g.B.BlockMatrix.matrix) l.b (map f l.initial.state)
