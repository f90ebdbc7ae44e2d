use Rattle.std.proofs.Common.{◌≡◌, map, take}
use Rattle.ark_sponge.specs.Permutation.{sums}
use Rattle.ark_poseidon.proofs.constant_length.add_block.Given as goal

abbrev pub invariant-loop-i : goal.invariant-loop-i
invariant-loop-i g l =
    let f = g.F.Field in
    map g.F.Valued.value l.state ≡ sums f.MODULUS (map g.F.Valued.value l.initial.state)
    (take l.i (map g.F.Valued.value l.block))
