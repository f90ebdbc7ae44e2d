use Rattle.std.proofs.Common.{◌≡◌, ℕ, List, Ok, inr, sym, ap, ap₂, ◌∙◌, arith, rules}
use Rattle.std.specs.Option.{option_map}
use Rattle.ark_signatures.proofs.Nonces.{first_nonce-found, first_nonce-none, first_nonce-refused, first_nonce-exhausted, or_else}
use Rattle.ark_signatures.proofs.signature.schnorr.challenge.draw_nonce.Given.{Over}
use Rattle.ark_signatures.proofs.signature.schnorr.challenge.draw_nonce.Invariants.{challenge_at}
use Rattle.ark_signatures.proofs.signature.schnorr.challenge.draw_nonce.Goals as goal

same_challenge : (g : Over) (message salt asked : List ℕ) (point multiple : g.row.C.Denot) → salt ≡ asked
    → point ≡ multiple → challenge_at g asked message multiple ≡ challenge_at g salt message point
same_challenge g message salt asked point multiple is_salt is_point =
    ap₂ (λ s p. challenge_at g s message p) (sym is_salt) (sym is_point)

pub loop-preserved : goal.loop-preserved
loop-preserved g c =
    let same = same_challenge g c.args.message.now _ _ _ _ c.salt.ensures c.generator_times-point.ensures in
    let none = same ∙ c.in_ok-e.ensures ∙ ap (λ o. Ok (option_map g.C.ScalarField.Valued.value o)) c.in_default.is in
    sym (first_nonce-none _ _ _ 128 c.loop.counter _ _ (omega arith) c.rand-k.ensures none) ∙ c.loop.invariant

pub returns-in_err-e : goal.returns-in_err-e
returns-in_err-e g c =
    let same = same_challenge g c.args.message.now _ _ _ _ c.salt.ensures c.generator_times-point.ensures in
    let told = or_else (λ refused. sym c.loop.invariant
    ∙ first_nonce-refused _ _ _ 128 c.loop.counter _ _ _ (omega arith) c.rand-k.ensures (same ∙ refused))
    c.in_err-e.ensures in
    search rules

pub returns-in-Some : goal.returns-in-Some
returns-in-Some g c =
    let same = same_challenge g c.args.message.now _ _ _ _ c.salt.ensures c.generator_times-point.ensures in
    let some = same ∙ c.in_ok-e.ensures ∙ ap (λ o. Ok (option_map g.C.ScalarField.Valued.value o)) c.in-Some.is in
    sym c.loop.invariant ∙ first_nonce-found _ _ _ 128 c.loop.counter _ _ _ (omega arith) c.rand-k.ensures some

pub returns : goal.returns
returns g c =
    inr (sym c.loop.invariant ∙ first_nonce-exhausted _ _ _ 128 c.loop.counter _ (omega arith))
