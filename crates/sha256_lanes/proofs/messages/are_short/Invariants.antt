use Rattle.std.proofs.Common.{take}
use Rattle.std.specs.List.{All}
use Rattle.sha256_lanes.specs.Runs.{IsShort}
use Rattle.sha256_lanes.proofs.messages.are_short.Given as goal

abbrev pub invariant-each : goal.invariant-each
invariant-each l = All (IsShort l.head) (take l.place l.messages)
