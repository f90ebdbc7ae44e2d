use Rattle.std.proofs.Common.{◌+◌}
use Rattle.ark_trees.specs.Rfc6962.{node_of}
use Rattle.merkle_log.specs.Stored.{row_at}
use Rattle.merkle_log.proofs.Hashed.{HashedTo}
use Rattle.merkle_log.proofs.kept.check.is_hashed.Given as goal

abbrev pub invariant-places : goal.invariant-places
invariant-places l = HashedTo node_of (row_at l.kept l.level) (row_at l.kept (l.level + 1)) l.place
