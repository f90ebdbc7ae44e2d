use Rattle.ark_absorb.proofs.Pieces.{Packed}
use Rattle.ark_absorb.proofs.packing.push_pieces.Given as goal

abbrev pub invariant-loop : goal.invariant-loop
invariant-loop g l = Packed g.F.Valued.value g.F.Field.MODULUS l.size l.end l.counter l.bytes l.rest
    l.initial.dest.items l.dest.items
