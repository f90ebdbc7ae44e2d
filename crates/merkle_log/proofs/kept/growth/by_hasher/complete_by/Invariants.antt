use Rattle.std.proofs.Common.{◌≡◌}
use Rattle.merkle_log.specs.Kept.{stored_front}
use Rattle.merkle_log.proofs.Making.{Making}
use Rattle.merkle_log.proofs.kept.growth.by_hasher.complete_by.Given as goal

abbrev pub invariant-odd : goal.invariant-odd
invariant-odd g l =
    let hash = g.H.NodeHasher.hash l.fn.hasher in
    let stored = stored_front (g.R.Rows.stored l.rows) in
    record {
      same : g.H.NodeHasher.hash l.hasher ≡ hash;
      at : Making hash stored l.size l.made l.digest l.fn.more l.more l.at l.level l.left l.own;
    }

abbrev pub decreases-odd : goal.decreases-odd
decreases-odd g l = l.left
