use Rattle.std.proofs.Common.{sym, ap, ◌∙◌}
use Rattle.ark_crypto_primitives.proofs.PedersenConflicts.{coordinates_give}
use Rattle.ark_pedersen.proofs.Relations.{positive}
use Rattle.ark_crypto_primitives.proofs.conflicts.pedersen_trees_bind.Goals as goal

pub returns : goal.returns
returns g c =
    let field = g.C.BaseField.Field in
    let met = g.met.C.BaseField in
    coordinates_give g.C.ScalarField.Field.MODULUS (record {
      laws = g.met.C.AdditiveGroup.laws;
      positive = positive g.C.ScalarField.Field.modulus_laws;
      kills = g.met.C.AdditiveGroup.order;
    }) g.W.Window g.V.Window field.MODULUS field.MODULUS_BIT_SIZE g.C.TECoordinates.x g.C.BaseField.Valued.value _
    (record {
      digits = field.modulus_laws.digits;
      field = met.Field.laws;
      below = g.met.C.TECoordinates.x_below;
      told = g.met.C.ToldByX.told;
      numbers_are = met.Field.numbers_are;
      bytes_are = λ f. sym (met.DigestItem.bytes_are f) ∙ met.Field.spelling_is f;
      read = λ f. met.DigestItem.numbers_are f ∙ ap g.C.BaseField.DigestItem.numbers_of (met.Field.spelling_is f);
    })
