use Rattle.ark_pedersen.proofs.Relations.{positive}
use Rattle.ark_crypto_primitives.proofs.NodeLemmas.{node_conflicts_give}
use Rattle.ark_crypto_primitives.proofs.conflicts.node_trees_bind.Goals as goal

pub returns : goal.returns
returns g c small =
    let met = g.met.C.BaseField.Field in
    node_conflicts_give (record {
      laws = g.met.C.AdditiveGroup.laws;
      positive = positive g.C.ScalarField.Field.modulus_laws;
      kills = g.met.C.AdditiveGroup.order;
    }) g.C.TECoordinates.x g.met.C.ToldByX.told g.C.BaseField.Field.MODULUS g.met.C.TECoordinates.x_below small
    g.W.Window g.C.BaseField.Numbered.numbers (λ f. (g.C.BaseField.Valued.value f, met.laws.below f, met.numbers_are f))
