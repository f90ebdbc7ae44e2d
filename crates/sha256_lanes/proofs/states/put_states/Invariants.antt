use Rattle.std.proofs.Common.{◌≡◌, map, take}
use Rattle.sha256_lanes.specs.Runs.{state_digest}
use Rattle.sha256_lanes.proofs.states.put_states.Given as goal

abbrev pub invariant-write : goal.invariant-write
invariant-write g l = take l.lane l.digests ≡ map state_digest (take l.lane l.states)
