use Rattle.std.proofs.Common.{◌≡◌, ℕ, true, sym, ap, ◌∙◌, arith}
use Rattle.ark_groups.specs.Words.{number}
use Rattle.ark_bowe_hopwood.specs.BoweHopwood.{is_fitting}
use Rattle.ark_bowe_hopwood.proofs.Scalars.{fitting_tells}
use Rattle.ark_bowe_hopwood.proofs.crh.CRHCRHScheme.setup.Goals as goal

pub returns-clause-unique : goal.returns-clause-unique
returns-clause-unique g c =
    let order = g.G.ScalarField.Field.MODULUS in
    let size = g.W.Window.WINDOW_SIZE in
    let fits : is_fitting order size ≡ true = ap (λ (o : ℕ). is_fitting o size) (sym c.modulus.ensures)
    ∙ ap (λ (s : ℕ). is_fitting (number c.modulus.result) s) (sym c.WINDOW_SIZE.ensures)
    ∙ sym c.if-not-is_fitting.ensures in
    fitting_tells order size fits (omega (arith, g.G.ScalarField.Field.modulus_laws.at_least_two))
