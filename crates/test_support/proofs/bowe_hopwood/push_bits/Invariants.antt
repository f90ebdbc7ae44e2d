use Rattle.std.proofs.Common.{◌≡◌, ◌-◌, ◌++◌}
use Rattle.ark_groups.specs.Bits.{bits_of_number}
use Rattle.test_support.proofs.bowe_hopwood.push_bits.Given as goal

-- what was put, and what is still to be put, are the whole
abbrev pub invariant-loop : goal.invariant-loop
invariant-loop l =
    l.bits.items ++ bits_of_number (8 - l.counter) l.rest ≡ l.initial.bits.items ++ bits_of_number 8 l.byte
