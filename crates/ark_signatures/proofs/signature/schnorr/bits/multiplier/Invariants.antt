use Rattle.std.proofs.Common.{◌≡◌, ◌%◌, ◌≤◌, length, drop}
use Rattle.ark_signatures.specs.Schnorr.{multiplier}
use Rattle.ark_signatures.proofs.signature.schnorr.bits.multiplier.Given as goal

-- what the bytes behind count
abbrev pub invariant-loop-rest : goal.invariant-loop-rest
invariant-loop-rest g l =
    record {
      number : g.F.Valued.value l.number ≡ multiplier (drop l.rest l.bytes) % g.F.Field.MODULUS;
      within : l.rest ≤ length l.bytes;
    }

abbrev pub decreases-loop-rest : goal.decreases-loop-rest
decreases-loop-rest g l = l.rest
