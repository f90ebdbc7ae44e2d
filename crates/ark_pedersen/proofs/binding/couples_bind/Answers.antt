use Rattle.ark_pedersen.proofs.Couples.{give_relations, are_some}
use Rattle.ark_pedersen.proofs.Relations.{positive}
use Rattle.ark_pedersen.proofs.binding.couples_bind.Goals as goal

pub returns-clause-relation : goal.returns-clause-relation
returns-clause-relation g c =
    let r = g.C.ScalarField.Field.MODULUS in
    give_relations g.met.C.AdditiveGroup.laws r (positive g.C.ScalarField.Field.modulus_laws)
    g.met.C.AdditiveGroup.order g.W.Window

pub returns-clause-some : goal.returns-clause-some
returns-clause-some g c =
    let r = g.C.ScalarField.Field.MODULUS in
    are_some g.met.C.AdditiveGroup.laws r (positive g.C.ScalarField.Field.modulus_laws)
    g.met.C.AdditiveGroup.order g.W.Window
