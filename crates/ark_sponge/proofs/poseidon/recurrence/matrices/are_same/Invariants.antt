use Rattle.std.proofs.Common.{◌≡◌, map, take}
use Rattle.ark_sponge.proofs.poseidon.recurrence.matrices.are_same.Given as goal

abbrev pub invariant-loop-i : goal.invariant-loop-i
invariant-loop-i g l =
    let f = g.F.Valued.value in
    take l.i (map (λ row. map f row.items) l.first) ≡ take l.i (map (λ row. map f row.items) l.second)
