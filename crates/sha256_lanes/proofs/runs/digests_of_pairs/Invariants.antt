use Rattle.std.proofs.Common.{◌*◌}
use Rattle.sha256_lanes.specs.Runs.{pair_behind}
use Rattle.sha256_lanes.proofs.RunLemmas.{AreWritten}
use Rattle.sha256_lanes.proofs.runs.digests_of_pairs.Given as goal

abbrev pub invariant-groups : goal.invariant-groups
invariant-groups l = AreWritten (pair_behind l.prefix) l.couples l.digests (8 * l.group)

abbrev pub invariant-rest : goal.invariant-rest
invariant-rest l = AreWritten (pair_behind l.prefix) l.couples l.digests l.place
