use Rattle.std.proofs.Common.{◌+◌, ◌-◌, ◌%◌, ap, ◌∙◌, arith}
use Rattle.ark_signatures.specs.Schnorr.{multiplier}
use Rattle.ark_signatures.proofs.Claims.{response-multiplier, verified-randomised}
use Rattle.ark_signatures.proofs.signature.schnorr.SchnorrSignatureScheme.randomize_signature.Goals as goal

pub returns-clause-exact : goal.returns-clause-exact
returns-clause-exact g c =
    let field = g.C.ScalarField.Field in
    let s = g.C.ScalarField.Valued.value c.args.signature.now.prover_response in
    let e = g.C.ScalarField.Valued.value c.args.signature.now.verifier_challenge in
    ap (λ new. (new, e))
    (c.sub.ensures ∙ ap (λ n. (s + (field.MODULUS - n)) % field.MODULUS) c.mul.ensures
    ∙ response-multiplier field.MODULUS (multiplier c.args.randomness.now) (g.C.ScalarField.Valued.value
    c.multiplier-m.result) s e c.multiplier-m.ensures)

pub returns-clause-alike : goal.returns-clause-alike
returns-clause-alike g c challenge key =
    let field = g.C.ScalarField.Field in
    let s = g.C.ScalarField.Valued.value c.args.signature.now.prover_response in
    let e = g.C.ScalarField.Valued.value c.args.signature.now.verifier_challenge in
    let group = g.met.C.AdditiveGroup in
    verified-randomised group.laws field.MODULUS (omega (arith, g.C.ScalarField.Field.modulus_laws.at_least_two))
    c.args.pp.now.generator (group.order c.args.pp.now.generator)
    challenge key (multiplier c.args.randomness.now) e s (g.C.ScalarField.Valued.value c.sub.result)
    (c.sub.ensures ∙ ap (λ n. (s + (field.MODULUS - n)) % field.MODULUS) c.mul.ensures
    ∙ response-multiplier field.MODULUS (multiplier c.args.randomness.now) (g.C.ScalarField.Valued.value
    c.multiplier-m.result) s e c.multiplier-m.ensures)
