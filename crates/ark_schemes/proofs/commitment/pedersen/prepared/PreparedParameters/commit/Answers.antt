use Rattle.std.proofs.Common.{◌≡◌, ◌∙◌, ap, sym, Ok, refl}
use Rattle.ark_base.specs.Outcome.{Outcome}
use Rattle.ark_pedersen.specs.Pedersen.{seen_by}
use Rattle.ark_schemes.proofs.PedersenCommitments.{value_fits, commitment-by_multiple}
use Rattle.ark_schemes.specs.PedersenCommitments.{elements_by_table}
use Rattle.ark_schemes.proofs.commitment.pedersen.prepared.PreparedParameters.commit.Goals as goal

pub returns : goal.returns
returns g c =
    let field = g.met.C.ScalarField.Field in
    let group = g.C.AdditiveGroup.group in
    let bits = g.C.ScalarField.Field.MODULUS_BIT_SIZE in
    let scalar = c.args.randomness.now.0 in
    let hash_is = rw c.deref.ensures.value at c.sum_of_bytes.ensures in
    let sum_is = rw c.mul_by_table-blinding.ensures at c.add_to_sum.ensures in
    record {
      exact = commitment-by_multiple g.met.C.AdditiveGroup.laws bits g.W.Window
          (elements_by_table g.C.FixedBaseGroup.base group bits c.args.self.now)
          (g.C.FixedBaseGroup.base c.args.self.now.table) refl c.args.input.now _ _ _
          (value_fits _ _ _ g.C.ScalarField.Field.modulus_laws field.laws scalar)
          (sym hash_is ∙ ap (seen_by g.C.AdditiveGroup.total) c.in_ok-hash.was)
          (c.from_sum.ensures ∙ sum_is);
    }
