use Rattle.std.proofs.Common.{◌+◌, ◌++◌, ◌∙◌, length, refl, arith}
use Rattle.merkle_log.specs.Kept.{stored_front}
use Rattle.merkle_log.specs.Levels.{Lies}
use Rattle.merkle_log.proofs.KeptRows.{front-long}
use Rattle.merkle_log.proofs.Levels.{risen-keeps, rises-none}
use Rattle.merkle_log.proofs.kept.growth.levels.grow.Goals as goal

pub returns-clause-grows : goal.returns-clause-grows
returns-clause-grows g c = λ leaves count keeps.
    let stored = g.R.Rows.stored c.args.rows.now in
    let total = c.args.size + length c.args.digests.now in
    let kept = stored_front stored in
    let laid = c.put_leaves.ensures.lies kept (front-long stored c.args.size c.requires.size c.requires.stored) in
    let lies : Lies (kept ++ c.raise_from.new.more) c.args.size c.args.digests.now =
    λ place below. c.raise_from.ensures.leaves (c.args.size + place) ∙ laid place below in
    let rises = c.raise_from.ensures.rises (rises-none (kept ++ c.put_leaves.new.more) c.args.size total) in
    rw (c.requires.size) (risen-keeps leaves stored.digests c.raise_from.new.more c.args.digests.now c.args.size
    total count keeps refl (omega (arith, c.requires.room, c.put_leaves.ensures.same, c.raise_from.ensures.same))
    (rw (c.requires.size) at lies) (rw (c.requires.size) at rises))
