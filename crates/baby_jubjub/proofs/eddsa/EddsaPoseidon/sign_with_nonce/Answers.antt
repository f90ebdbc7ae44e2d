use Rattle.std.proofs.Common.{◌≡◌, ℕ, ◌*◌, ◌%◌, ◌<◌, ◌∙◌, ap, ap₂, arith}
use Rattle.ark_groups.specs.Group.{times}
use Rattle.ark_groups.specs.Words.{number}
use Rattle.ark_wide_fields.specs.Laws.Fp256.{wide_below}
use Rattle.baby_jubjub.specs.BabyJubjub.{p, order, curve, base8}
use Rattle.baby_jubjub.specs.Eddsa.{eddsa_challenge}
use Rattle.baby_jubjub.specs.Keys.{secret_of}
use Rattle.baby_jubjub.specs.Points.{coordinates}
use Rattle.baby_jubjub.specs.Values.{scalar_number, value}
use Rattle.baby_jubjub.proofs.Equation.{eightfold, signed_is_signature, number_made}
use Rattle.baby_jubjub.proofs.eddsa.EddsaPoseidon.sign_with_nonce.Goals as goal

pub modulo_order-hm-requires : goal.modulo_order-hm-requires
modulo_order-hm-requires c =
    let below : value c.challenge.result < p = wide_below c.challenge.result in
    omega (arith, c.words-2.ensures, below)

pub returns-clause-exact : goal.returns-clause-exact
unfolding order
returns-clause-exact c parameters of =
    let r = scalar_number c.args.nonce in
    let k = secret_of c.args.key.now in
    let m = value c.args.message in
    let r8 = coordinates c.mul-r8.result in
    let h : ℕ = eddsa_challenge parameters r8 (times curve k base8) m in
    let hash : number c.words-2.result ≡ h = c.words-2.ensures ∙ c.challenge.ensures parameters of
    ∙ ap (λ q. eddsa_challenge parameters r8 q m) c.public_key.ensures in
    record {
      point = c.mul-r8.ensures ∙ ap₂ (times curve) c.words.ensures c.base8.ensures;
      number = number_made order r h k (scalar_number c.double-eight.result)
          (scalar_number c.mul.result) (scalar_number c.add.result)
          (eightfold order h (scalar_number c.modulo_order-hm.result) (scalar_number c.double.result)
          (scalar_number c.double-2.result) (scalar_number c.double-eight.result)
          (c.modulo_order-hm.ensures ∙ ap (λ n. n % order) hash) c.double.ensures c.double-2.ensures
          c.double-eight.ensures)
          (c.mul.ensures ∙ ap (λ n. scalar_number c.double-eight.result * n % order) c.secret.ensures) c.add.ensures;
    }

pub returns-clause-valid : goal.returns-clause-valid
returns-clause-valid c parameters of =
    signed_is_signature parameters (scalar_number c.args.nonce) (secret_of c.args.key.now) (value c.args.message)
    (coordinates c.mul-r8.result) (scalar_number c.add.result) (returns-clause-exact c parameters of)
