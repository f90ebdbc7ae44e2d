use Rattle.std.proofs.Common.{◌∙◌}
use Rattle.ark_schemes.proofs.PedersenCommitments.{value_fits, pedersen_commitment-windows, pedersen_commitment-union}
use Rattle.ark_schemes.proofs.commitment.pedersen.CommitmentCommitmentScheme.commit.Goals as goal

pub returns-clause-windows : goal.returns-clause-windows
returns-clause-windows g c element elements are =
    let field = g.met.C.ScalarField.Field in
    let fits = value_fits _ _ _ g.C.ScalarField.Field.modulus_laws field.laws c.args.randomness.now.0 in
    c.commitment_of.ensures ∙ pedersen_commitment-windows g.met.C.AdditiveGroup.laws _ g.W.Window _ element
    are.of_randomness elements c.args.input.now _ fits are.of_windows

pub returns-clause-sums : goal.returns-clause-sums
returns-clause-sums g c made left right r s whole sum =
    let group = g.met.C.AdditiveGroup in
    let field = g.met.C.ScalarField.Field in
    let fits = value_fits _ _ _ g.C.ScalarField.Field.modulus_laws field.laws in
    let element = made.0 in
    c.commitment_of.ensures ∙ pedersen_commitment-union group.laws _ g.W.Window _ element made.2.of_randomness _
    c.args.input.now left right _ _ _ (group.order element) (fits c.args.randomness.now.0) (fits r) (fits s) whole sum
