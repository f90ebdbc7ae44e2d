use Rattle.std.proofs.Common.{◌≡◌, map, take}
use Rattle.ark_paths.specs.Rows.{digests_of, rows_seen}
use Rattle.ark_paths.proofs.digests.copies_of_rows.Given as goal

abbrev pub invariant-loop-row : goal.invariant-loop-row
invariant-loop-row g l = rows_seen g.D.Numbered.numbers l.copies ≡ map (digests_of g.D.Numbered.numbers)
    (take l.row-index l.rows)
