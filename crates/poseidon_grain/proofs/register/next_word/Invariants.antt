use Rattle.std.proofs.Common.{◌≡◌}
use Rattle.poseidon_grain.specs.Grain.{number_drawn}
use Rattle.poseidon_grain.proofs.register.next_word.Given as goal

abbrev pub invariant-loop : goal.invariant-loop
invariant-loop l = (l.value, l.register) ≡ number_drawn l.counter l.initial.register
