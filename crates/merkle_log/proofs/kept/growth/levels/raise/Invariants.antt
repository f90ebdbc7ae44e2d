use Rattle.std.proofs.Common.{◌≡◌, ◌+◌, ◌-◌, ◌≤◌, ◌++◌, length}
use Rattle.merkle_log.specs.Kept.{stored_front}
use Rattle.merkle_log.specs.Levels.{Raises}
use Rattle.merkle_log.proofs.kept.growth.levels.raise.Given as goal

abbrev pub invariant-places : goal.invariant-places
invariant-places g l =
    let kept = stored_front (g.R.Rows.stored l.rows) in
    record {
      same : length l.more ≡ length l.fn.more;
      above : l.first ≤ l.place;
      raises : Raises (kept ++ l.fn.more) (kept ++ l.more) l.level l.first l.place;
    }

abbrev pub decreases-places : goal.decreases-places
decreases-places g l = l.end - l.place

abbrev pub invariant-run : goal.invariant-run
invariant-run g l =
    let kept = stored_front (g.R.Rows.stored l.rows) in
    record {
      same : length l.more ≡ length l.fn.more;
      raises : Raises (kept ++ l.fn.more) (kept ++ l.more) l.level l.first (l.place + l.step);
    }
