use Rattle.std.proofs.Common.{◌≡◌, ◌+◌, ◌*◌, ◌%◌, map, take, replicate}
use Rattle.poseidon2.proofs.Ones.{combined}
use Rattle.poseidon2.proofs.layers.add_total.Given as goal

abbrev pub invariant-loop-i : goal.invariant-loop-i
invariant-loop-i g l =
    let f = g.F.Valued.value in
    map f l.state ≡ combined (λ x d. (x * d + f l.all) % g.F.Field.MODULUS) (map f l.initial.state)
    (take l.i (replicate l.width 1))
