use Rattle.std.proofs.Common.{◌≡◌, ◌%◌, drop}
use Rattle.ark_groups.specs.Bits.{number_of_bits}
use Rattle.ark_groups.proofs.ff.parts.element_of_bits.Given as goal

-- the bits behind are read
abbrev pub invariant-loop-i : goal.invariant-loop-i
invariant-loop-i g l = g.F.Valued.value l.element ≡ number_of_bits (drop l.i l.bits) % g.F.Field.MODULUS
