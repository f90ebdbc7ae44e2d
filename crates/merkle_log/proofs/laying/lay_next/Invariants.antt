use Rattle.merkle_log.specs.Rising.{left_of}
use Rattle.merkle_log.proofs.LaidRows.{Laying}
use Rattle.merkle_log.proofs.laying.lay_next.Given as goal

abbrev pub invariant-odd : goal.invariant-odd
invariant-odd g l =
    let numbers = g.D.Numbered.numbers in
    Laying numbers l.size l.fn.digests.items l.digests.items (left_of numbers l.fn.rows) (left_of numbers l.rows)
    l.level l.left

abbrev pub decreases-odd : goal.decreases-odd
decreases-odd g l = l.left
