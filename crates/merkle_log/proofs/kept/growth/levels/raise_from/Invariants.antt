use Rattle.std.proofs.Common.{◌≡◌, ◌++◌, length}
use Rattle.merkle_log.specs.Kept.{stored_front}
use Rattle.merkle_log.proofs.Levels.{Risen}
use Rattle.merkle_log.proofs.kept.growth.levels.raise_from.Given as goal

abbrev pub invariant-levels : goal.invariant-levels
invariant-levels g l =
    let kept = stored_front (g.R.Rows.stored l.rows) in
    record {
      same : length l.more ≡ length l.fn.more;
      risen : Risen (kept ++ l.fn.more) (kept ++ l.more) l.size l.total l.from l.level l.first l.end;
    }

abbrev pub decreases-levels : goal.decreases-levels
decreases-levels g l = l.end
