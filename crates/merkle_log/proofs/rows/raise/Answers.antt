use Rattle.std.proofs.Common.{◌+◌, ◌-◌, arith, ◌∙◌}
use Rattle.merkle_log.proofs.Asking.{peak-here}
use Rattle.merkle_log.proofs.Edges.{has-front, whole-raised}
use Rattle.merkle_log.proofs.KeptRows.{has-up, whole-up}
use Rattle.merkle_log.proofs.Tallied.{left-whole, left-copied, left-hashed, left-kept}
use Rattle.merkle_log.proofs.rows.raise.Goals as goal

pub at-requires-clause-held : goal.at-requires-clause-held
at-requires-clause-held g c =
    peak-here (g.R.Rows.Holds c.args.rows.now) c.args.level (c.args.last_index + 1) c.args.last_index
    (rw (c.in-None.is) at c.requires.held) (omega arith) (omega arith)

pub at-requires-then-last_index-eq1-2-clause-held : goal.at-requires-then-last_index-eq1-2-clause-held
at-requires-then-last_index-eq1-2-clause-held g c =
    peak-here (g.R.Rows.Holds c.args.rows.now) c.args.level c.args.last_index (c.args.last_index - 1)
    (rw (c.in-Some.is) at c.requires.held) c.if-last_index-eq1-2.true (omega arith)

pub returns-then-last_index-eq1-clause-raised : goal.returns-then-last_index-eq1-clause-raised
returns-then-last_index-eq1-clause-raised g c = λ stored.
    rw (c.in-None.is) (whole-raised stored c.args.level c.args.last_index c.if-last_index-eq1.true
    (rw (c.in-None.is) at c.requires.last))

pub returns-then-last_index-eq1-clause-has : goal.returns-then-last_index-eq1-clause-has
returns-then-last_index-eq1-clause-has g c = whole-up (g.R.Rows.stored c.args.rows.now) c.args.level c.args.last_index
    c.if-last_index-eq1.true (rw (c.in-None.is) at c.requires.last)

pub returns-in_ok-copied-in-None-clause-has : goal.returns-in_ok-copied-in-None-clause-has
returns-in_ok-copied-in-None-clause-has g c = has-up (g.R.Rows.stored c.args.rows.now) c.args.level c.args.last_index
    (has-front _ _ c.args.last c.requires.last)

pub returns-in_ok-node-in-Some-clause-has : goal.returns-in_ok-node-in-Some-clause-has
returns-in_ok-node-in-Some-clause-has g c = has-up (g.R.Rows.stored c.args.rows.now) c.args.level c.args.last_index
    (has-front _ _ c.args.last c.requires.last)

pub returns-else-last_index-eq1-2-clause-has : goal.returns-else-last_index-eq1-2-clause-has
returns-else-last_index-eq1-2-clause-has g c = has-up (g.R.Rows.stored c.args.rows.now) c.args.level
    c.args.last_index (has-front _ _ c.args.last c.requires.last)

pub returns-then-last_index-eq1-clause-counts : goal.returns-then-last_index-eq1-clause-counts
returns-then-last_index-eq1-clause-counts g c = λ edge same.
    rw (c.in-None.is) (left-whole _ edge (same ∙ c.if-last_index-eq1.true))

pub returns-in_ok-copied-in-None-clause-counts : goal.returns-in_ok-copied-in-None-clause-counts
returns-in_ok-copied-in-None-clause-counts g c = λ edge same.
    rw (c.in-None.is) (left-copied _ edge (omega (arith, same)))

pub returns-in_ok-node-in-Some-clause-counts : goal.returns-in_ok-node-in-Some-clause-counts
returns-in_ok-node-in-Some-clause-counts g c = λ edge same.
    rw (c.in-Some.is) (left-hashed _ _ edge c.requires.counted c.in_ok-node-in-Some.ensures.counts
    (omega (arith, same)))

pub returns-else-last_index-eq1-2-clause-counts : goal.returns-else-last_index-eq1-2-clause-counts
returns-else-last_index-eq1-2-clause-counts g c = λ edge same.
    rw (c.in-Some.is) (left-kept _ edge (omega (arith, same)))
