use Rattle.std.proofs.Common.{◌≡◌, ◌-◌, ◌++◌, get_or, reverse, take}
use Rattle.ark_groups.specs.Bits.{bits_of_number}
use Rattle.ark_signatures.specs.Schnorr.{highest_first}
use Rattle.ark_signatures.proofs.signature.schnorr.bits.bytes_to_bits.Given as goal

-- the bits of the byte that were put, and those that are still to be put, are the whole
abbrev pub invariant-loop-place : goal.invariant-loop-place
invariant-loop-place l =
    let byte = get_or l.bytes l.byte-index 0 in
    l.bits.items ++ reverse (bits_of_number (8 - l.place) byte) ≡ l.initial.bits.items ++ reverse
    (bits_of_number 8 byte)

abbrev pub invariant-loop-byte : goal.invariant-loop-byte
invariant-loop-byte l = l.bits.items ≡ highest_first (take l.byte-index l.bytes)
