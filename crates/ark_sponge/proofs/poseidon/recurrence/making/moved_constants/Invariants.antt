use Rattle.std.proofs.Common.{map, take}
use Rattle.ark_sponge.specs.Recurrence.{AreMoved}
use Rattle.ark_sponge.proofs.poseidon.recurrence.making.moved_constants.Given as goal

abbrev pub invariant-loop-row : goal.invariant-loop-row
invariant-loop-row g l =
    let f = g.F.Valued.value in
    AreMoved g.F.Field.MODULUS (map (λ row. map f row.items) l.mds)
    (take l.row-index (map (λ row. map f row.items) l.rows)) (map f l.constants.items) (map f l.offset.items)
