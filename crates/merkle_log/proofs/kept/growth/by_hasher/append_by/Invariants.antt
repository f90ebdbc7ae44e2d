use Rattle.std.proofs.Common.{◌≡◌}
use Rattle.merkle_log.specs.Kept.{stored_front}
use Rattle.merkle_log.proofs.Appending.{Appending}
use Rattle.merkle_log.proofs.kept.growth.by_hasher.append_by.Given as goal

abbrev pub invariant-leaves : goal.invariant-leaves
invariant-leaves g l =
    let hash = g.H.NodeHasher.hash l.fn.hasher in
    let stored = stored_front (g.R.Rows.stored l.rows) in
    record {
      same : g.H.NodeHasher.hash l.hasher ≡ hash;
      at : Appending hash stored l.size l.digests l.fn.more l.more l.place l.made;
    }
