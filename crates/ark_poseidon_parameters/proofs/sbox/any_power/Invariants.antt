use Rattle.std.proofs.Common.{◌≡◌, ◌*◌, ◌%◌, ◌^◌}
use Rattle.ark_poseidon_parameters.proofs.sbox.any_power.Given as goal

-- what is done, times the base to the power of the rest, is the whole
abbrev pub invariant-loop-rest : goal.invariant-loop-rest
invariant-loop-rest g l =
    (g.F.Valued.value l.product * g.F.Valued.value l.base ^ l.rest) % g.F.Field.MODULUS
    ≡ g.F.Valued.value l.fn.x ^ l.fn.exponent % g.F.Field.MODULUS

abbrev pub decreases-loop-rest : goal.decreases-loop-rest
decreases-loop-rest g l = l.rest
