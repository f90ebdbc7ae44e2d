use Rattle.std.proofs.Common.{◌≡◌, List, ◌++◌, ℕ, refl, ◌∙◌, ap, ap₂, length, replicate}
use Rattle.ark_base.specs.Digits.{bytes_of_number}
use Rattle.ark_base.specs.Laws.Digits.{length-bytes_of_number}
use Rattle.baby_jubjub.specs.Values.{value}
use Rattle.baby_jubjub.proofs.SignatureBytes.{both_halves, second_long}
use Rattle.baby_jubjub.proofs.private.with_message.Goals as goal

pub returns : goal.returns
returns c =
    let a = c.copy_from_slice.new.self in
    let b = c.write_low_bytes.new.out in
    let n = value c.args.message in
    let rest = replicate 32 0 in
    let long_a : length a ≡ 32 = c.copy_from_slice.ensures.len in
    let is_b : b ≡ bytes_of_number 32 n =
    c.write_low_bytes.ensures ∙ ap (λ k. bytes_of_number k n) (second_long a rest long_a refl) in
    both_halves a b rest long_a (ap (λ (s : List ℕ). length s) is_b ∙ length-bytes_of_number 32 n) refl
    ∙ ap₂ (λ (s t : List ℕ). s ++ t) (c.copy_from_slice.ensures.after ∙ c.as_slice.ensures) is_b
