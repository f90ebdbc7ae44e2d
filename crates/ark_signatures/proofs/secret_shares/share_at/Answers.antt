use Rattle.std.proofs.Common.{◌≡◌, ◌<◌, ◌+◌, ◌*◌, ◌%◌, suc, ℕ, ◌-◌, length, map, drop, sym, ◌∙◌, ap, arith}
use Rattle.ark_signatures.specs.SecretShares.{polynomial_value}
use Rattle.ark_signatures.proofs.ShareSteps.{horner_step}
use Rattle.ark_signatures.proofs.secret_shares.share_at.Goals as goal

before : (i : ℕ) → 0 < i → i ≡ suc (i - 1)
before i l = omega arith

pub loop-i-preserved : goal.loop-i-preserved
loop-i-preserved g c =
    let value = g.F.Valued.value in
    let m = g.F.Field.MODULUS in
    let coefficients = c.args.coefficients.now in
    let i = c.loop-i.i in
    let x = value c.args.place in
    let first = c.index-coefficients-i.result in
    let within : i - 1 < length coefficients = omega (arith, c.loop-i-test.true) in
    let rest : value c.loop-i.value ≡ polynomial_value m (drop (suc (i - 1)) (map value coefficients)) x =
    c.loop-i.invariant
    ∙ ap (λ k. polynomial_value m (drop k (map value coefficients)) x) (before i c.loop-i-test.true) in
    c.add-value.ensures ∙ ap (λ t. (value first + t) % m) (c.mul.ensures ∙ ap (λ t. x * t % m) rest)
    ∙ sym (horner_step value m coefficients (i - 1) x first within c.index-coefficients-i.is)
