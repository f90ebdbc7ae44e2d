use Rattle.ark_groups.specs.Laws.Fp.{number-alone}
use Rattle.ark_pedersen.proofs.injective_map.images_tell_elements.Goals as goal

pub returns : goal.returns
returns g c a b same =
    g.met.C.ToldByX.told a b (number-alone g.C.BaseField.Field.MODULUS g.C.BaseField.Field.MODULUS_BIT_SIZE
    g.C.BaseField.Field.modulus_laws.digits (g.C.TECoordinates.x a) (g.C.TECoordinates.x b)
    (g.met.C.TECoordinates.x_below a) (g.met.C.TECoordinates.x_below b) same)
