use Rattle.std.proofs.Common.{◌≡◌, map, take}
use Rattle.ark_sponge.proofs.poseidon.recurrence.matrices.is_same.Given as goal

abbrev pub invariant-loop-i : goal.invariant-loop-i
invariant-loop-i g l =
    let f = g.F.Valued.value in
    take l.i (map f l.first) ≡ take l.i (map f l.second)
