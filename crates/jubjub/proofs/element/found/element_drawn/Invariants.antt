use Rattle.std.proofs.Common.{◌≡◌, ◌-◌}
use Rattle.jubjub.specs.Draws.{element_found}
use Rattle.jubjub.proofs.element.found.element_drawn.Given as goal

-- what is found of the rest of the stream by the tries that are left is what is found
abbrev pub invariant-loop : goal.invariant-loop
invariant-loop g l =
    element_found 128 (g.R.Rng.stream l.initial.rng) ≡ element_found (128 - l.counter) (g.R.Rng.stream l.rng)
