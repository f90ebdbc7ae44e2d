use Rattle.std.proofs.Common.{◌≡◌, ◌*◌, ◌%◌, map, take}
use Rattle.ark_sponge.proofs.poseidon.recurrence.matrices.scale.Given as goal

abbrev pub invariant-loop-i : goal.invariant-loop-i
invariant-loop-i g l =
    let f = g.F.Valued.value in
    map f (take l.i l.out) ≡ take l.i (map (λ x. (x * f l.factor) % g.F.Field.MODULUS) (map f l.row))
