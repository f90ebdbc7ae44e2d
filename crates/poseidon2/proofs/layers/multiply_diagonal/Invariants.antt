use Rattle.std.proofs.Common.{◌≡◌, ◌+◌, ◌*◌, ◌%◌, map, take}
use Rattle.poseidon2.proofs.Ones.{combined}
use Rattle.poseidon2.proofs.layers.multiply_diagonal.Given as goal

abbrev pub invariant-loop-i : goal.invariant-loop-i
invariant-loop-i g l =
    let f = g.F.Valued.value in
    let p = g.F.Field.MODULUS in
    map f l.state ≡ combined (λ x d. (x * d % p + f l.all) % p) (map f l.initial.state) (take l.i (map f l.diagonal))
