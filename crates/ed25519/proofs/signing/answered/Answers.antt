use Rattle.std.proofs.Common.{◌≡◌, ℕ, ◌+◌, ◌*◌, ◌%◌, ◌++◌, ◌∙◌, ap, ap₂}
use Rattle.std.proofs.Math.Nat.{add-mod-mod}
use Rattle.std.proofs.lemmas.Nat.{mul-mod_second}
use Rattle.ark_base.specs.Digits.{bytes_of_number}
use Rattle.ark_groups.specs.Words.{number}
use Rattle.ed25519.specs.Edwards25519.{order}
use Rattle.ed25519.specs.Signatures.{challenge}
use Rattle.ed25519.specs.Values.{scalar}
use Rattle.ed25519.proofs.signing.answered.Goals as goal

pub returns : goal.returns
unfolding order
returns c =
    let first = c.args.first in
    let m = c.args.message.now in
    let s = number c.args.secret in
    let r = scalar c.args.nonce in
    let k : ℕ = challenge first c.args.key.now m in
    let k_is : scalar c.challenge_scalar-k.result ≡ k =
    c.challenge_scalar-k.ensures ∙ ap₂ (λ f a. challenge f a m) c.as_slice.ensures c.as_slice-2.ensures in
    let sum_is : scalar c.add.result ≡ (r + k * s) % order =
    c.add.ensures ∙ ap (λ t. (r + t) % order) (c.mul.ensures ∙ ap₂ (λ n a. n * a % order) k_is c.modulo_order.ensures
    ∙ mul-mod_second k s order) ∙ add-mod-mod r (k * s) order in
    c.both.ensures ∙ ap (λ n. first ++ bytes_of_number 32 n) sum_is
