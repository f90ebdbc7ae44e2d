use Rattle.merkle_log.specs.Rising.{left_of}
use Rattle.merkle_log.proofs.LaidRows.{Laid}
use Rattle.merkle_log.proofs.laying.lay_rows.Given as goal

abbrev pub invariant-leaves : goal.invariant-leaves
invariant-leaves g l =
    let numbers = g.D.Numbered.numbers in
    Laid numbers l.size l.step l.fn.digests.items l.digests.items (left_of numbers l.fn.rows) (left_of numbers l.rows)
