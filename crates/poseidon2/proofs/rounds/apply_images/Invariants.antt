use Rattle.std.proofs.Common.{◌≡◌, ◌+◌, ◌%◌, map, take}
use Rattle.poseidon2.proofs.Ones.{combined}
use Rattle.poseidon2.proofs.rounds.apply_images.Given as goal

abbrev pub invariant-loop-i : goal.invariant-loop-i
invariant-loop-i g l =
    let f = g.F.Valued.value in
    map f l.state ≡ combined (λ x k. g.S.SBox.image l.alpha ((x + k) % g.F.Field.MODULUS)) (map f l.initial.state)
    (take l.i (map f l.row))
