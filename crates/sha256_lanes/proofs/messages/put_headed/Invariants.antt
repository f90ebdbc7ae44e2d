use Rattle.std.proofs.Common.{◌≡◌, map, take}
use Rattle.sha256_lanes.specs.Runs.{headed_hash}
use Rattle.sha256_lanes.proofs.messages.put_headed.Given as goal

abbrev pub invariant-each : goal.invariant-each
invariant-each g l = take l.place l.digests ≡ map (headed_hash l.head) (take l.place l.messages)
