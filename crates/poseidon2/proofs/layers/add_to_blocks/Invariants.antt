use Rattle.std.proofs.Common.{◌≡◌, map}
use Rattle.poseidon2.specs.Blocks.{front_blocks, sum_at}
use Rattle.poseidon2.proofs.layers.add_to_blocks.Given as goal

abbrev pub invariant-loop-b : goal.invariant-loop-b
invariant-loop-b g l =
    let f = g.F.Valued.value in
    map f l.state ≡ front_blocks (sum_at g.F.Field.MODULUS (f l.s.w0) (f l.s.w1) (f l.s.w2) (f l.s.w3)) l.b
    (map f l.initial.state)
