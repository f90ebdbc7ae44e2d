use Rattle.std.proofs.Common.{◌≡◌, map, length}
use Rattle.poseidon2.specs.Permutation.{poseidon2_permutation}
use Rattle.poseidon2.specs.Modes.{state_overwriting}
use Rattle.poseidon2.proofs.modes.overwrite_blocks.Given as goal

abbrev pub invariant-loop-rest : goal.invariant-loop-rest
invariant-loop-rest g l =
    let v = g.F.Valued.value in
    let permute = poseidon2_permutation g.F.Field.MODULUS g.S.SBox.image g.B.BlockMatrix.matrix l.parameters in
    record {
      so_far : state_overwriting permute l.rate (map v l.state) (map v l.rest)
          ≡ state_overwriting permute l.rate (map v l.fn.state) (map v l.elements);
      state : length l.state ≡ length l.fn.state;
    }

abbrev pub decreases-loop-rest : goal.decreases-loop-rest
decreases-loop-rest g l = length l.rest
