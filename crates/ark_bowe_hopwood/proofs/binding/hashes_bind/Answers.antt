use Rattle.ark_pedersen.proofs.Relations.{positive}
use Rattle.ark_bowe_hopwood.proofs.Relations.{give_relations, are_some}
use Rattle.ark_bowe_hopwood.proofs.binding.hashes_bind.Goals as goal

pub returns-clause-relation : goal.returns-clause-relation
returns-clause-relation g c = give_relations g.met.G.AdditiveGroup.laws g.G.TECoordinates.x g.W.Window
    g.met.G.ToldByX.told

pub returns-clause-some : goal.returns-clause-some
returns-clause-some g c =
    are_some g.G.ScalarField.Field.MODULUS g.W.Window
    (positive g.G.ScalarField.Field.modulus_laws)
