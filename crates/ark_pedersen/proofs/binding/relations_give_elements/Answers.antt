use Rattle.ark_pedersen.proofs.Relations.{positive}
use Rattle.ark_pedersen.proofs.SolvedRelations.{give_elements}
use Rattle.ark_pedersen.proofs.binding.relations_give_elements.Goals as goal

pub returns : goal.returns
returns g c =
    let r = g.C.ScalarField.Field.MODULUS in
    give_elements g.met.C.AdditiveGroup.laws r (positive g.C.ScalarField.Field.modulus_laws)
    g.met.C.AdditiveGroup.order
