use Rattle.std.proofs.Common.{◌*◌}
use Rattle.sha256_lanes.specs.Runs.{hash_behind}
use Rattle.sha256_lanes.proofs.RunLemmas.{AreWritten}
use Rattle.sha256_lanes.proofs.runs.digests_of_messages.Given as goal

abbrev pub invariant-groups : goal.invariant-groups
invariant-groups l = AreWritten (hash_behind l.prefix) l.messages l.digests (8 * l.group)

abbrev pub invariant-rest : goal.invariant-rest
invariant-rest l = AreWritten (hash_behind l.prefix) l.messages l.digests l.place
