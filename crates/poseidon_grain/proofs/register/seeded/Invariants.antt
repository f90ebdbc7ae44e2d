use Rattle.std.proofs.Common.{◌≡◌, ◌-◌}
use Rattle.poseidon_grain.specs.Grain.{stepped}
use Rattle.poseidon_grain.proofs.register.seeded.Given as goal

-- the steps that are left lead where all lead
abbrev pub invariant-loop : goal.invariant-loop
invariant-loop l = stepped (160 - l.counter) l.register ≡ stepped 160 l.initial.register
