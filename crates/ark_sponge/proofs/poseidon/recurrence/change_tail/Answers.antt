use Rattle.ark_sponge.proofs.Windows.{tail_changed}
use Rattle.ark_sponge.proofs.poseidon.recurrence.change_tail.Goals as goal

pub returns-clause-value : goal.returns-clause-value
returns-clause-value g c =
    tail_changed g.F.Valued.value g.F.Field.MODULUS _ c.args.state.now c.args.out.now c.multiply.new.product _
    c.requires.some c.requires.out c.index-state-0.is c.multiply.ensures.value
