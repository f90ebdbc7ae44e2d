use Rattle.std.proofs.Common.{◌≡◌, ◌%◌, map, take, sum}
use Rattle.poseidon2.proofs.layers.total.Given as goal

abbrev pub invariant-loop-x : goal.invariant-loop-x
invariant-loop-x g l =
    let f = g.F.Valued.value in
    f l.all ≡ sum (take l.x-index (map f l.state)) % g.F.Field.MODULUS
