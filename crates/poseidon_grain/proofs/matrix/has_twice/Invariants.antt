use Rattle.std.proofs.Common.{◌≡◌, map, length}
use Rattle.poseidon_grain.specs.Constants.{has_twice}
use Rattle.poseidon_grain.proofs.matrix.has_twice.Given as goal

-- what is left has an element twice where all have
abbrev pub invariant-loop-first : goal.invariant-loop-first
invariant-loop-first g l =
    has_twice (map g.F.Valued.value l.rest) ≡ has_twice (map g.F.Valued.value l.elements)

abbrev pub decreases-loop-first : goal.decreases-loop-first
decreases-loop-first g l = length l.rest
