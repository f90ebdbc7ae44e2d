use Rattle.std.proofs.Common.{map, ap, ◌∙◌}
use Rattle.ark_sponge.proofs.Windows.{turned-of}
use Rattle.ark_sponge.proofs.poseidon.recurrence.turn.Goals as goal

pub returns-clause-value : goal.returns-clause-value
returns-clause-value g c =
    let f = g.F.Valued.value in
    ap (map f) c.shift.ensures
    ∙ turned-of f g.F.Field.MODULUS (g.S.SBox.image c.args.alpha) c.args.output.now c.args.feedback.now
    (f c.args.constant) c.args.state.now c.index-state-0.result c.add.result c.apply-image.result
    c.sum_of_products-first.result
    c.sum_of_products.result c.add-last.result c.requires.two c.index-state-0.is c.add.ensures c.apply-image.ensures
    c.sum_of_products-first.ensures c.sum_of_products.ensures c.add-last.ensures
