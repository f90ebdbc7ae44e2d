use Rattle.std.proofs.Common.{take}
use Rattle.std.specs.List.{All}
use Rattle.sha256_lanes.specs.Runs.{IsLong}
use Rattle.sha256_lanes.proofs.messages.are_long.Given as goal

abbrev pub invariant-each : goal.invariant-each
invariant-each l = All (IsLong l.head) (take l.place l.messages)
