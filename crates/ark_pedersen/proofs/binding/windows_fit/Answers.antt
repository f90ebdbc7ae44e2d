use Rattle.std.proofs.Common.{nat_lt, ◌∙◌, ap₂}
use Rattle.ark_pedersen.proofs.Relations.{fitting_bits}
use Rattle.ark_pedersen.proofs.binding.windows_fit.Goals as goal

pub returns : goal.returns
returns g c =
    ap₂ nat_lt c.WINDOW_SIZE.ensures c.MODULUS_BIT_SIZE.ensures
    ∙ fitting_bits g.C.ScalarField.Field.MODULUS g.C.ScalarField.Field.MODULUS_BIT_SIZE g.W.Window.WINDOW_SIZE
    g.C.ScalarField.Field.modulus_laws.digits
