use Rattle.std.proofs.Common.{ap, ◌∙◌}
use Rattle.std.specs.Vec.Iter.{into_iter_items}
use Rattle.merkle_log.proofs.LaidRows.{left-other, left-own}
use Rattle.merkle_log.proofs.laying.next_of.Goals as goal

pub returns-clause-own : goal.returns-clause-own
returns-clause-own g c =
    left-own g.D.Numbered.numbers c.args.rows.now c.args.level _ _ _ c.requires c.index-rows-level.is
    (ap into_iter_items c.index-rows-level.is ∙ rw (c.unwrap.ensures) at c.next.ensures.items)

pub returns-clause-others : goal.returns-clause-others
returns-clause-others g c = left-other g.D.Numbered.numbers c.args.rows.now c.args.level _
