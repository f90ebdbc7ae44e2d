use Rattle.std.proofs.Common.{◌≡◌, ◌-◌, ◌++◌, take}
use Rattle.ark_groups.specs.Bits.{bits_of_number}
use Rattle.ark_pedersen.specs.Pedersen.{bits_of_bytes}
use Rattle.ark_pedersen.proofs.bits.bytes_to_bits.Given as goal

-- the bits of the byte that were put, and those that are still to be put, are the whole
abbrev pub invariant-loop : goal.invariant-loop
invariant-loop l = l.bits.items ++ bits_of_number (8 - l.counter) l.rest ≡ l.initial.bits.items ++ bits_of_number 8
    l.initial.rest

abbrev pub invariant-loop-byte : goal.invariant-loop-byte
invariant-loop-byte l = l.bits.items ≡ bits_of_bytes (take l.byte-index l.bytes)
