use Rattle.std.proofs.Common.{◌≡◌, ◌++◌, drop}
use Rattle.paxidore_calls.specs.Plan.{bytes_of_steps, places_of_steps}
use Rattle.paxidore_calls.proofs.file_calls.handed.flat_of.Given as goal

abbrev pub invariant-loop-step : goal.invariant-loop-step
invariant-loop-step l =
    (l.bytes.items ++ bytes_of_steps (drop l.step-index l.plan) ≡ bytes_of_steps l.plan)
    × (l.places.items ++ places_of_steps (drop l.step-index l.plan) ≡ places_of_steps l.plan)
