use Rattle.std.proofs.Common.{◌≡◌, ◌++◌, map, take}
use Rattle.std.specs.List.{flat_map}
use Rattle.ark_base.specs.Spelling.{counted_list}
use Rattle.paxidore_calls.proofs.transcript.parameters.write_rows.Given as goal

abbrev pub invariant-loop-row : goal.invariant-loop-row
invariant-loop-row g l =
    l.dest.items ≡ l.initial.dest.items ++ flat_map (counted_list g.E.ElementForm.form.spells)
    (map (λ row. map g.F.Valued.value row.items) (take l.row-index l.rows))
