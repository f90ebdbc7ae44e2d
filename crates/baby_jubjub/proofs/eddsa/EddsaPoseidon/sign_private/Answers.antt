use Rattle.std.proofs.Common.{subst}
use Rattle.ark_groups.specs.Group.{times}
use Rattle.baby_jubjub.specs.BabyJubjub.{curve, base8}
use Rattle.baby_jubjub.specs.Eddsa.{IsEddsaSignature, IsSignedWith}
use Rattle.baby_jubjub.specs.Points.{coordinates}
use Rattle.baby_jubjub.specs.Private.{private_secret}
use Rattle.baby_jubjub.specs.PrivateKeys.{private_bytes}
use Rattle.baby_jubjub.specs.Values.{value, scalar_number}
use Rattle.baby_jubjub.proofs.eddsa.EddsaPoseidon.sign_private.Goals as goal

pub returns-clause-exact : goal.returns-clause-exact
returns-clause-exact c parameters of =
    let m = value c.args.message in
    let r8 = coordinates c.sign_with_nonce.result.r8 in
    let s = scalar_number c.sign_with_nonce.result.s in
    subst (λ r. IsSignedWith parameters r (private_secret (private_bytes c.args.key.now)) m r8 s) c.nonce.ensures
    (subst (λ k. IsSignedWith parameters (scalar_number c.nonce.result) k m r8 s) c.signing_key.ensures
    (c.sign_with_nonce.ensures.exact parameters of))

pub returns-clause-valid : goal.returns-clause-valid
returns-clause-valid c parameters of =
    subst (λ k. IsEddsaSignature parameters (times curve k base8) (value c.args.message)
    (coordinates c.sign_with_nonce.result.r8) (scalar_number c.sign_with_nonce.result.s)) c.signing_key.ensures
    (c.sign_with_nonce.ensures.valid parameters of)
