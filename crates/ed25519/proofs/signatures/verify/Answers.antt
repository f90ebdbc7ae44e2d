use Rattle.std.proofs.Common.{◌≡◌, ℕ, ◌++◌, drop, sym, ◌∙◌, ap, true≢false}
use Rattle.std.proofs.lemmas.Slice.Eq.{bytes_eq-Decides}
use Rattle.std.proofs.lemmas.List.{take-append-drop}
use Rattle.ark_base.specs.Digits.{bytes_of_number}
use Rattle.ark_groups.specs.Words.{number}
use Rattle.ark_wide_fields.specs.Laws.Fp256.{wide_below}
use Rattle.ed25519.specs.Edwards25519.{order}
use Rattle.ed25519.specs.Spelling.{spelling}
use Rattle.ed25519.specs.Points.{coordinates_of}
use Rattle.ed25519.specs.Values.{scalar}
use Rattle.ed25519.proofs.Comparing.{they_differ, they_agree}
use Rattle.ed25519.proofs.Verifying.{signature_long, scalar_of, last_of, is_signature, passes, left_over}
use Rattle.ed25519.proofs.signatures.verify.Goals as goal

pub returns-then-signature-ne64 : goal.returns-then-signature-ne64
returns-then-signature-ne64 c = (
  λ t. absurd (true≢false (sym t)),
  λ q. absurd (c.if-signature-ne64.true (signature_long c.args.key.now c.args.message.now c.args.signature.now q)),
)

pub returns-then-ne : goal.returns-then-ne
unfolding order
returns-then-ne c =
    let key = c.args.key.now in
    let message = c.args.message.now in
    let signature = c.args.signature.now in
    let first = c.split_at.result.0.now in
    let last = c.split_at.result.1.now in
    let s : ℕ = scalar c.from_le_bytes_mod_order-s.result in (
      λ t. absurd (true≢false (sym t)),
      λ q. absurd (they_differ c.ne.result c.as_slice.result.now last c.ne.ensures c.if-ne.true
          (c.as_slice.ensures ∙ c.write_low_bytes.ensures ∙ ap (bytes_of_number 32) (scalar_of key message signature
          first
          last c.split_at.ensures.front c.split_at.ensures.back q s c.from_le_bytes_mod_order-s.ensures)
          ∙ sym (last_of key message signature first last c.split_at.ensures.front c.split_at.ensures.back q))),
    )

pub returns-else-ne : goal.returns-else-ne
unfolding order
returns-else-ne c =
    let key = c.args.key.now in
    let message = c.args.message.now in
    let signature = c.args.signature.now in
    let first = c.split_at.result.0.now in
    let last = c.split_at.result.1.now in
    let is_first = c.split_at.ensures.front in
    let is_last = c.split_at.ensures.back in
    let a = coordinates_of c.in-Some.x c.in-Some.y in
    let on = c.in-Some.ensures.on in
    let key_is = c.in-Some.ensures.some in
    let s : ℕ = scalar c.from_le_bytes_mod_order-s.result in
    let k : ℕ = scalar c.challenge_scalar-k.result in
    let last_is : last ≡ bytes_of_number 32 s =
    sym (they_agree c.ne.result c.as_slice.result.now last c.ne.ensures c.if-ne.false) ∙ c.as_slice.ensures
    ∙ c.write_low_bytes.ensures in
    let bytes : c.as_slice-in-Some.result.now ≡ spelling (left_over s k a) =
    c.as_slice-in-Some.ensures ∙ c.commitment-bytes.ensures
    ∙ ap (λ n. spelling (left_over n (number c.words-in-Some.result) a)) c.words.ensures
    ∙ ap (λ n. spelling (left_over s n a)) c.words-in-Some.ensures in
    let compared = bytes_eq-Decides c.as_slice-in-Some.result.now first in (
      λ t. is_signature key message signature first last is_first is_last a s k on key_is
          (wide_below c.from_le_bytes_mod_order-s.result) last_is c.challenge_scalar-k.ensures
          (sym (compared.0 (sym c.eq.ensures ∙ t)) ∙ bytes)
          (sym (take-append-drop 32 signature) ∙ ap (λ t. t ++ drop 32 signature) (sym is_first)
          ∙ ap (λ t. first ++ t) (sym is_last)),
      λ q. c.eq.ensures ∙ compared.1 (bytes ∙ passes key message signature first last is_first is_last q a s k on key_is
          c.from_le_bytes_mod_order-s.ensures c.challenge_scalar-k.ensures),
    )
