use Rattle.std.proofs.Common.{◌≡◌, ℕ, length, sym, ap, ◌∙◌, arith}
use Rattle.ark_groups.specs.Laws.Field.{at_most_256_bits}
use Rattle.ark_pedersen.specs.Pedersen.{seen_by}
use Rattle.ark_schemes.proofs.PedersenCommitments.{value_fits, pedersen_commitment-words}
use Rattle.ark_schemes.proofs.commitment.pedersen.commitment_of.Goals as goal

pub returns : goal.returns
returns g c =
    let field = g.met.C.ScalarField.Field in
    let bits : ℕ = g.C.ScalarField.Field.MODULUS_BIT_SIZE in
    let elements = c.args.parameters.now.randomness_generator in
    let long : length elements.items ≡ bits =
    omega (arith, elements.ok.0, c.len.ensures, c.MODULUS_BIT_SIZE.ensures, c.if-len-MODULUS_BIT_SIZE.false) in
    let total = g.C.AdditiveGroup.total in
    let hash_is = rw c.deref.ensures.value at c.sum_of_bytes.ensures in
    let sum_is = rw (c.deref-2.ensures.value, c.words.ensures) at c.add_number-sum.ensures in
    pedersen_commitment-words g.C.AdditiveGroup.group bits g.W.Window _ c.args.input.now _ (total c.in_ok-hash.hash)
    c.from_sum.result (value_fits _ _ _ g.C.ScalarField.Field.modulus_laws field.laws c.args.randomness)
    (at_most_256_bits _ _ g.C.ScalarField.Field.modulus_laws) long
    (sym hash_is ∙ ap (seen_by total) c.in_ok-hash.was) (c.from_sum.ensures ∙ sum_is)
