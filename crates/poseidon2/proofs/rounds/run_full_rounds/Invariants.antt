use Rattle.std.proofs.Common.{◌≡◌, length, map, take}
use Rattle.poseidon2.specs.Matrices.{external_matrix}
use Rattle.poseidon2.specs.Permutation.{full_rounds}
use Rattle.poseidon2.proofs.rounds.run_full_rounds.Given as goal

abbrev pub invariant-loop-row : goal.invariant-loop-row
invariant-loop-row g l =
    let f = g.F.Valued.value in
    map f l.state ≡ full_rounds g.F.Field.MODULUS (g.S.SBox.image l.alpha)
    (external_matrix g.B.BlockMatrix.matrix (length l.initial.state))
    (take l.row-index (map (λ row. map f row.items) l.rows)) (map f l.initial.state)
