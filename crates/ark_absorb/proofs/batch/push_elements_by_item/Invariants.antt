use Rattle.ark_absorb.proofs.Appended.{Put}
use Rattle.ark_absorb.proofs.batch.push_elements_by_item.Given as goal

abbrev pub invariant-loop-item : goal.invariant-loop-item
invariant-loop-item g l =
    Put g.F.Valued.value (λ x. g.A.AbsorbItem.sponge_elements x g.F.Field.MODULUS g.F.Field.MODULUS_BIT_SIZE) l.batch
    l.item-index l.initial.dest.items l.dest.items
