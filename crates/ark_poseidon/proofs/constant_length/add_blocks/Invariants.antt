use Rattle.std.proofs.Common.{◌≡◌, map, length}
use Rattle.ark_sponge.specs.Permutation.{width, permutation}
use Rattle.ark_poseidon.specs.ConstantLength.{state_adding}
use Rattle.ark_poseidon.proofs.constant_length.add_blocks.Given as goal

abbrev pub invariant-loop-rest : goal.invariant-loop-rest
invariant-loop-rest g l =
    let f = g.F.Field in
    let v = g.F.Valued.value in
    let permute = permutation f.MODULUS g.S.SBox.image l.parameters in
    record {
      so_far : state_adding f.MODULUS permute l.parameters.rate (map v l.state) (map v l.rest)
          ≡ state_adding f.MODULUS permute l.parameters.rate (map v l.fn.state) (map v l.elements);
      state : length l.state ≡ width l.parameters;
      scratch : length l.scratch ≡ width l.parameters;
    }

abbrev pub decreases-loop-rest : goal.decreases-loop-rest
decreases-loop-rest g l = length l.rest
