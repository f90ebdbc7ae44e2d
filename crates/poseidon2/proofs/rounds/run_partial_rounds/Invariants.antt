use Rattle.std.proofs.Common.{◌≡◌, map, take}
use Rattle.poseidon2.specs.Matrices.{internal_matrix}
use Rattle.poseidon2.specs.Permutation.{partial_rounds}
use Rattle.poseidon2.proofs.rounds.run_partial_rounds.Given as goal

abbrev pub invariant-loop-constant : goal.invariant-loop-constant
invariant-loop-constant g l =
    let f = g.F.Valued.value in
    map f l.state ≡ partial_rounds g.F.Field.MODULUS (g.S.SBox.image l.alpha) (internal_matrix (map f l.diagonal))
    (take l.constant-index (map f l.constants)) (map f l.initial.state)
