use Rattle.std.proofs.Common.{arith}
use Rattle.merkle_log.proofs.LaidRows.{laying-end, laying-next, laying-some, laying-whole}
use Rattle.merkle_log.proofs.laying.lay_next.Goals as goal

pub next_of-requires-in-odd : goal.next_of-requires-in-odd
next_of-requires-in-odd g c = laying-some c.odd.invariant c.requires.some c.odd-test.true

pub odd-preserved : goal.odd-preserved
odd-preserved g c =
    laying-next c.odd.invariant _ _ _ c.odd-test.true c.in_ok-push-2.ensures.items c.next_of-in-odd.ensures.own
    c.next_of-in-odd.ensures.others

pub returns-clause-laid : goal.returns-clause-laid
returns-clause-laid g c = laying-end c.odd.invariant (omega arith) c.requires.whole

pub returns-clause-whole : goal.returns-clause-whole
returns-clause-whole g c = laying-whole c.odd.invariant (omega arith) c.requires.whole
