use Rattle.std.proofs.Common.{◌≡◌, ◌++◌, map, take}
use Rattle.std.specs.List.{flat_map}
use Rattle.ark_base.specs.Digits.{itself}
use Rattle.ark_sponge.proofs.poseidon.table.push_rows.Given as goal

abbrev pub invariant-loop-row : goal.invariant-loop-row
invariant-loop-row g l =
    map g.F.Valued.value l.list.items
    ≡ map g.F.Valued.value l.initial.list.items
    ++ flat_map itself (take l.row-index (map (λ row. map g.F.Valued.value row.items) l.rows))
