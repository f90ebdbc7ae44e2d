use Rattle.std.proofs.Common.{Ok, ap, ◌∙◌, arith}
use Rattle.ark_base.specs.Outcome.{Outcome}
use Rattle.ark_signatures.proofs.Claims.{times-multiplier}
use Rattle.ark_signatures.proofs.signature.schnorr.SchnorrSignatureScheme.randomize_public_key.Goals as goal

pub returns : goal.returns
returns g c =
    let group = g.C.AdditiveGroup.group in
    ap (λ (y : g.row.C.Denot). let o : Outcome g.row.C.Denot = Ok y in o)
    (c.add.ensures ∙ ap (group.plus c.args.public_key.now)
    (c.mul.ensures ∙ times-multiplier g.met.C.AdditiveGroup.laws g.C.ScalarField.Field.MODULUS
    (omega (arith, g.C.ScalarField.Field.modulus_laws.at_least_two)) c.args.pp.now.generator
    (g.met.C.AdditiveGroup.order c.args.pp.now.generator) _ _ c.multiplier-m.ensures))
