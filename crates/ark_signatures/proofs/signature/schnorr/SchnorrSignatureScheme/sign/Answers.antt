use Rattle.std.proofs.Common.{ℕ, sym, subst, refl, arith, Option}
use Rattle.ark_base.specs.Outcome.{Outcome}
use Rattle.ark_groups.specs.Group.{times}
use Rattle.ark_signatures.specs.Schnorr.{challenge_text, challenge_of, response, IsValid}
use Rattle.ark_signatures.proofs.Claims.{IsValid-signed}
use Rattle.ark_signatures.proofs.Nonces.{first_nonce-has}
use Rattle.ark_signatures.proofs.signature.schnorr.SchnorrSignatureScheme.sign.Goals as goal

pub returns-clause-valid : goal.returns-clause-valid
returns-clause-valid g c =
    let field = g.C.ScalarField.Field in
    let group = g.met.C.AdditiveGroup in
    let pp = c.args.pp.now in
    let challenge : g.row.C.Denot → Outcome (Option ℕ) = λ point.
    challenge_of field.MODULUS field.MODULUS_BIT_SIZE
    (g.D.ByteDigest.meaning (challenge_text pp.salt (g.C.Canonical.spelling (g.C.Canonical.view point))
    c.args.message.now)) in
    let k = g.C.ScalarField.Valued.value c.in_ok-k.k in
    let e = g.C.ScalarField.Valued.value c.in_ok-k.e in
    let x = g.C.ScalarField.Valued.value c.args.sk.now.0 in
    let s = response field.MODULUS x k e in
    let key = times g.C.AdditiveGroup.group x pp.generator in
    subst (IsValid g.C.AdditiveGroup.group challenge pp.generator key) (sym c.answering.ensures)
    (IsValid-signed group.laws field.MODULUS (omega (arith, g.C.ScalarField.Field.modulus_laws.at_least_two))
    pp.generator (group.order pp.generator) challenge k x e s refl
    (first_nonce-has g.C.ScalarField.UniformRand.draw g.C.ScalarField.Valued.value
    (λ n. challenge (times g.C.AdditiveGroup.group n pp.generator)) 128 _ k e _ c.in_ok-k.ensures))
