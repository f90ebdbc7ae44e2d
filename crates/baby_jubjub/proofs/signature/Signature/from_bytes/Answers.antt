use Rattle.std.proofs.Common.{◌≡◌, ℕ, ◌-◌, ◌<◌, ◌≤◌, ◌++◌, drop, length, Ok, Bool, false, sym, ◌∙◌}
use Rattle.std.proofs.Common.{ap, ap₂, arith, true≢false}
use Rattle.std.specs.Prelude.{IsTrue, ◌↔◌}
use Rattle.std.proofs.lemmas.List.{take-append-drop, length-drop}
use Rattle.ark_base.specs.Digits.{number_of_bytes, bytes_of_number}
use Rattle.ark_base.specs.Laws.Digits.{bytes_of_number-number_of_bytes}
use Rattle.ark_base.specs.Laws.Steps.{IsBytes-drop}
use Rattle.ark_groups.specs.Words.{number}
use Rattle.ark_wide_fields.specs.Laws.Fp256.{wide_below, wide_same}
use Rattle.baby_jubjub.specs.declared.point.Point.{Point}
use Rattle.baby_jubjub.specs.BabyJubjub.{order}
use Rattle.baby_jubjub.specs.Values.{OrderElement, scalar_number}
use Rattle.baby_jubjub.proofs.SignatureBytes.{first_half, second_half, found_same, never_found}
use Rattle.baby_jubjub.proofs.signature.Signature.from_bytes.Goals as goal

pub returns-in-Err-clause-own : goal.returns-in-Err-clause-own
returns-in-Err-clause-own c g is =
    absurd (never_found c.in-Err.fault g.r8 (c.in-Err.ensures.own g.r8 (c.copy_from_slice.ensures.after
    ∙ c.split_at.ensures.front ∙ first_half c.args.bytes.now g is)))

pub returns-then-not-is_below-clause-own : goal.returns-then-not-is_below-clause-own
unfolding order
returns-then-not-is_below-clause-own c g is =
    let same : number c.words_of-s.result ≡ scalar_number g.s =
    c.words_of-s.ensures ∙ ap number_of_bytes c.split_at.ensures.back ∙ second_half c.args.bytes.now g is in
    absurd (unless c.is_below.result c.is_below.ensures c.if-not-is_below.true
    (fits (scalar_number g.s) (number c.words_of-s.result) (number c.modulus.result) same c.modulus.ensures
    (wide_below g.s)))
  where
    unless : {P : Type 0} (b : Bool) → IsTrue b ↔ P → b ≡ false → P → ⊥
    unless b test off holds = true≢false (sym (test.1 holds) ∙ off)

    fits : (y m n : ℕ) → m ≡ y → n ≡ order → y < order → m < n
    fits y m n a b l = omega (arith, a, b, l)

pub returns-then-not-is_below-clause-err : goal.returns-then-not-is_below-clause-err
unfolding order
returns-then-not-is_below-clause-err c =
    let same : number c.words_of-s.result ≡ number_of_bytes (drop 32 c.args.bytes.now) =
    c.words_of-s.ensures ∙ ap number_of_bytes c.split_at.ensures.back in
    above c.is_below.result (number c.words_of-s.result) (number c.modulus.result)
    (number_of_bytes (drop 32 c.args.bytes.now)) c.is_below.ensures c.if-not-is_below.true same c.modulus.ensures
  where
    above : (b : Bool) (m n k : ℕ) → IsTrue b ↔ (m < n) → b ≡ false → m ≡ k → n ≡ order → order ≤ k
    above b m n k test off is_m is_n =
        let not_below : (m < n → ⊥) = λ l. true≢false (sym (test.1 l) ∙ off) in
        omega (arith, not_below, is_m, is_n)

pub returns-clause-ok : goal.returns-clause-ok
unfolding order
returns-clause-ok c =
    let bytes = c.args.bytes.now in
    let long : length (drop 32 bytes) ≡ 32 = length-drop 32 bytes ∙ ap (λ n. n - 32) c.told-bytes in
    let second : drop 32 bytes ≡ bytes_of_number 32 (scalar_number c.from_words.result) =
    sym (bytes_of_number-number_of_bytes (drop 32 bytes) (IsBytes-drop 32 bytes c.fits-bytes))
    ∙ ap₂ bytes_of_number long (ap number_of_bytes (sym c.split_at.ensures.back) ∙ sym c.words_of-s.ensures
    ∙ sym c.from_words.ensures) in
    sym (take-append-drop 32 bytes) ∙ ap₂ (λ s t. s ++ t)
    (sym c.split_at.ensures.front ∙ sym c.copy_from_slice.ensures.after ∙ c.in-Ok.ensures.ok) second

pub returns-clause-own : goal.returns-clause-own
unfolding order
returns-clause-own c g is =
    let point : c.in-Ok.point ≡ g.r8 = found_same c.in-Ok.point g.r8 (c.in-Ok.ensures.own g.r8
    (c.copy_from_slice.ensures.after ∙ c.split_at.ensures.front ∙ first_half c.args.bytes.now g is)) in
    let element : c.from_words.result ≡ g.s = wide_same c.from_words.result g.s (c.from_words.ensures
    ∙ c.words_of-s.ensures ∙ ap number_of_bytes c.split_at.ensures.back ∙ second_half c.args.bytes.now g is) in
    ap₂ (λ (q : Point) (n : OrderElement). Ok (record { r8 = q; s = n })) point element
