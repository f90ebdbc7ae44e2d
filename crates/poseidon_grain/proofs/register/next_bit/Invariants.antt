use Rattle.std.proofs.Common.{◌≡◌, ◌-◌}
use Rattle.poseidon_grain.specs.Grain.{bit_within}
use Rattle.poseidon_grain.proofs.register.next_bit.Given as goal

-- what the pairs that are left give is what is given
abbrev pub invariant-loop : goal.invariant-loop
invariant-loop l = bit_within 80 l.initial.register ≡ bit_within (80 - l.counter) l.register
