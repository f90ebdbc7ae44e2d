use Rattle.std.proofs.Common.{◌≡◌, ◌∷◌, map, take, drop}
use Rattle.ark_sponge.proofs.poseidon.recurrence.making.moved_up.Given as goal

abbrev pub invariant-loop-row : goal.invariant-loop-row
invariant-loop-row g l =
    let f = g.F.Valued.value in
    map (λ row. map f row.items) l.moved.items
    ≡ take l.row-index (map (λ row. 0 ∷ row) (drop 1 (map (λ row. map f row.items) l.rows)))
